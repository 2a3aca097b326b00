-- The forms of jumps and branches, where items stand, and the words that they become. Places are
-- numbers of words from the function's first.
--
-- A form is chosen by the places that items would have if all of them took their longest form. Real
-- distances are never longer, so it fits. Calls of globals, whose distances are not known here, take
-- the form that is asked for.
use Rattle.std.proofs.Common.{mod-lt, lit<}
use Rattle.std.specs.List.{list_all}
use Rattle.std.specs.Prelude.{ℕ, ◌+◌, ◌-◌, ◌*◌, ◌%◌, ◌^◌, ◌<◌, ◌≤◌, Bool, true, false, IsTrue, ◌&&◌, nat_le, if◌then◌else◌, ℤ, pos, ◌-ℤ◌, List, [], ◌∷◌, ◌++◌, length, slice_index, slice_set, replicate}
use Rattle.bits.specs.Words.{upper_field, lower_field}
use Rattle.rv_isa.specs.declared.abi.TheConstants.{ZERO, RETURN_ADDRESS, JUMP_SCRATCH}
use Rattle.rv_isa.specs.Prelude.{u_type, i_type, b_type, j_type, branch_row, word, of_global, named, filled_in, LabelledItems, longest}
use Rattle.rv_isa.specs.declared.ranges.Register.{Register}
use Rattle.rv_isa.specs.declared.instruction.BranchOp.{BranchOp}
use Rattle.rv_isa.specs.declared.instruction.BranchOp.TheVariants.{Beq, Bne, Blt, Bge, Bltu, Bgeu}
use Rattle.rv_isa.specs.declared.labelled.Item.{Item}
use Rattle.rv_isa.specs.declared.labelled.Item.TheVariants.{Plain, Label, Branch, Goto, Call, Relocated}
use Rattle.rv_isa.specs.declared.code.Hole.{Hole}
use Rattle.rv_isa.specs.declared.relocation.Filling.{Filling}
use Rattle.rv_isa.specs.declared.relocation.Filling.TheVariants.{Part, Call as CallOf}
use Rattle.rv_isa.specs.declared.relocation.Partial.TheVariants.{Upper, Jump}
use Rattle.asm_layout.specs.declared.call.CallForm.{CallForm}
use Rattle.asm_layout.specs.declared.call.CallForm.TheVariants.{Near, Far as FarCall}
use Rattle.asm_layout.specs.declared.reach.Reach.{Reach}
use Rattle.asm_layout.specs.declared.reach.Reach.TheVariants.{Short, Middle, Far}

-- ---- forms

-- what reaches from one place to another: a branch, from 1024 words back to 1023 ahead; `jal`, from
-- there or from the word after it; or nothing less than `auipc` and `jalr`
abbrev pub reach_of : (here there : ℕ) → Reach
reach_of here there =
    if nat_le (there - here) 1023 && nat_le (here - there) 1024 then Short
    else (if nat_le (there - here) 262143 && nat_le (here - there) 262143 then Middle else Far)

-- the places are this far apart at most, and small
abbrev pub Fits : Reach → (here there : ℕ) → Type 0
Fits Short here there = (there ≤ here + 1023) × (here ≤ there + 1024)
Fits Middle here there = (there ≤ here + 262143) × (here ≤ there + 262143)
Fits Far here there = Unit {0}

-- how many words a jump and a branch take
abbrev pub jump_size : Reach → ℕ
jump_size Short = 1
jump_size Middle = 1
jump_size Far = 2

abbrev pub branch_size : Reach → ℕ
branch_size Short = 1
branch_size Middle = 2
branch_size Far = 3

-- how many words an item has, where it would stand at f in the longest form, and labels at these places
abbrev pub size : (far : List ℕ) (f : ℕ) → Item → ℕ
size far f (Plain i) = 1
size far f (Label l) = 0
size far f (Branch op rs1 rs2 l) = branch_size (reach_of f (slice_index far l))
size far f (Goto l) = jump_size (reach_of f (slice_index far l))
size far f (Call n) = 1
size far f (Relocated r) = 1

-- ---- places of labels, by number

abbrev pub marked : List ℕ → (at : ℕ) → Item → List ℕ
marked places at (Plain i) = places
marked places at (Label l) = slice_set places l at
marked places at (Branch op rs1 rs2 l) = places
marked places at (Goto l) = places
marked places at (Call n) = places
marked places at (Relocated r) = places

-- in the longest form, of items from f on
abbrev pub longest_places : (f : ℕ) (places : List ℕ) → List Item → List ℕ
longest_places f places [] = places
longest_places f places (i ∷ items) = longest_places (f + longest i) (marked places f i) items

-- in the forms that are chosen, of items from p on
abbrev pub chosen_places : (far : List ℕ) (f p : ℕ) (places : List ℕ) → List Item → List ℕ
chosen_places far f p places [] = places
chosen_places far f p places (i ∷ items) =
    chosen_places far (f + longest i) (p + size far f i) (marked places p i) items

-- ---- words

abbrev pub inverse : BranchOp → BranchOp
inverse Beq = Bne
inverse Bne = Beq
inverse Blt = Bge
inverse Bge = Blt
inverse Bltu = Bgeu
inverse Bgeu = Bltu

-- the distance in bytes, and the same modulo 2^32
abbrev pub distance : (here there : ℕ) → ℤ
distance here there = pos (4 * there) -ℤ pos (4 * here)

abbrev pub distance_word : (here there : ℕ) → ℕ
distance_word here there = (4 * there + (2 ^ 32 - 4 * here)) % 2 ^ 32

abbrev pub jump_words : Reach → (here there : ℕ) → List ℕ
jump_words Short here there = j_type 0x6f ZERO (distance here there) ∷ []
jump_words Middle here there = j_type 0x6f ZERO (distance here there) ∷ []
jump_words Far here there =
    u_type 0x17 JUMP_SCRATCH (upper_field (distance_word here there))
    ∷ i_type 0x67 0 ZERO JUMP_SCRATCH (lower_field (distance_word here there)) ∷ []

-- a jump of these forms fits; one may stand a word after the branch that it is for
abbrev pub JumpFits : Reach → (here there : ℕ) → Type 0
JumpFits Short here there = (there ≤ here + 262143) × (here ≤ there + 262144)
JumpFits Middle here there = (there ≤ here + 262143) × (here ≤ there + 262144)
JumpFits Far here there = Unit {0}

-- a branch, or the inverse branch to the word after a jump
abbrev pub branch_words : Reach → BranchOp → (rs1 rs2 : Register) → (here there : ℕ) → List ℕ
branch_words Short op rs1 rs2 here there =
    b_type 0x63 (branch_row op) rs1.number rs2.number (distance here there) ∷ []
branch_words Middle op rs1 rs2 here there =
    b_type 0x63 (branch_row (inverse op)) rs1.number rs2.number (distance here (here + 2))
    ∷ jump_words Middle (here + 1) there
branch_words Far op rs1 rs2 here there =
    b_type 0x63 (branch_row (inverse op)) rs1.number rs2.number (distance here (here + 3))
    ∷ jump_words Far (here + 1) there

-- the word of what waits for an address, in the words of a function that stand from `at` on
abbrev pub fills : (at : ℕ) (global : ℕ → ℕ) → (p : ℕ) → Filling → ℕ
fills at global p x = word (filled_in x (at + 4 * p) (global (named x)))

-- an item's words at p, with these words where an address is waited for
abbrev pub item_words : (far places : List ℕ) (fill : ℕ → Filling → ℕ) (f p : ℕ) → Item → List ℕ
item_words far places fill f p (Plain i) = word i ∷ []
item_words far places fill f p (Label l) = []
item_words far places fill f p (Branch op rs1 rs2 l) =
    branch_words (reach_of f (slice_index far l)) op rs1 rs2 p (slice_index places l)
item_words far places fill f p (Goto l) =
    jump_words (reach_of f (slice_index far l)) p (slice_index places l)
item_words far places fill f p (Call n) = fill p (CallOf n) ∷ []
item_words far places fill f p (Relocated r) = fill p (Part r) ∷ []

-- these words, and those of items after them
abbrev pub words_with : (far places : List ℕ) (fill : ℕ → Filling → ℕ) (f : ℕ) → List ℕ →
    List Item → List ℕ
words_with far places fill f words [] = words
words_with far places fill f words (i ∷ items) =
    words_with far places fill (f + longest i) (words
    ++ item_words far places fill f (length words) i) items

-- ---- holes

abbrev pub item_holes : (p : ℕ) → Item → List Hole
item_holes p (Plain i) = []
item_holes p (Label l) = []
item_holes p (Branch op rs1 rs2 l) = []
item_holes p (Goto l) = []
item_holes p (Call n) = record { word = p; filling = CallOf n } ∷ []
item_holes p (Relocated r) = record { word = p; filling = Part r } ∷ []

abbrev pub holes_with : (far : List ℕ) (f p : ℕ) → List Hole → List Item → List Hole
holes_with far f p holes [] = holes
holes_with far f p holes (i ∷ items) =
    holes_with far (f + longest i) (p + size far f i) (holes ++ item_holes p i) items

-- ---- calls

-- `lui` and `jalr` through x1
abbrev pub link : Register
link = record { number = RETURN_ADDRESS % 32; in_range = mod-lt RETURN_ADDRESS (lit< tt) }

abbrev pub far_call : (global : ℕ) → List Item
far_call n = Relocated (of_global (Upper link) n) ∷ Relocated (of_global (Jump link link) n) ∷ []

abbrev pub with_far_call : Item → List Item
with_far_call (Plain i) = Plain i ∷ []
with_far_call (Label l) = Label l ∷ []
with_far_call (Branch op rs1 rs2 l) = Branch op rs1 rs2 l ∷ []
with_far_call (Goto l) = Goto l ∷ []
with_far_call (Call n) = far_call n
with_far_call (Relocated r) = Relocated r ∷ []

abbrev pub with_far_calls : List Item → List Item
with_far_calls [] = []
with_far_calls (i ∷ items) = with_far_call i ++ with_far_calls items

-- calls in the form that is asked for
abbrev pub formed : CallForm → LabelledItems → LabelledItems
formed Near c = c
formed FarCall c = record { items = with_far_calls c.items; labels = c.labels }

-- words that wait for addresses have calls only in this form
abbrev pub is_part : Filling → Bool
is_part (Part r) = true
is_part (CallOf n) = false

abbrev pub HaveForm : CallForm → List Hole → Type 0
HaveForm Near holes = Unit {0}
HaveForm FarCall holes = IsTrue (list_all (λ h. is_part h.filling) holes)

-- ---- the whole

-- before addresses are known
abbrev pub no_address : (p : ℕ) → Filling → ℕ
no_address p x = word (filled_in x 0 0)

abbrev pub far_of : LabelledItems → List ℕ
far_of c = longest_places 0 (replicate c.labels 0) c.items

abbrev pub places_of : LabelledItems → List ℕ
places_of c = chosen_places (far_of c) 0 0 (replicate c.labels 0) c.items

abbrev pub words_of : LabelledItems → List ℕ
words_of c = words_with (far_of c) (places_of c) no_address 0 [] c.items

abbrev pub holes_of : LabelledItems → List Hole
holes_of c = holes_with (far_of c) 0 0 [] c.items

-- each jump and branch has a form that fits, from p on
abbrev pub ItemFits : (far places : List ℕ) (f p : ℕ) → Item → Type 0
ItemFits far places f p (Plain i) = Unit {0}
ItemFits far places f p (Label l) = Unit {0}
ItemFits far places f p (Branch op rs1 rs2 l) =
    Fits (reach_of f (slice_index far l)) p (slice_index places l) × (slice_index places l < 2 ^ 28)
ItemFits far places f p (Goto l) =
    Fits (reach_of f (slice_index far l)) p (slice_index places l) × (slice_index places l < 2 ^ 28)
ItemFits far places f p (Call n) = Unit {0}
ItemFits far places f p (Relocated r) = Unit {0}

abbrev pub AllFit : (far places : List ℕ) (f p : ℕ) → List Item → Type 0
AllFit far places f p [] = Unit {0}
AllFit far places f p (i ∷ items) =
    ItemFits far places f p i × AllFit far places (f + longest i) (p + size far f i) items
