-- Certificates that have each register in the slot of its number, and know of each block's start
-- what is wanted there.
use Rattle.std.specs.Prelude.{ℕ, Bool, true, not, ◌&&◌, nat_eq, nat_lt, List, [], ◌∷◌, length, ◌≡◌, ◌+◌, false, ◌||◌, map, ◌*◌, ◌≤◌, Option}
use Rattle.std.specs.List.{list_all, list_any}
use Rattle.vcode.specs.declared.place.Location.{Location}
use Rattle.vcode.specs.declared.code.Code.{Code}
use Rattle.vcode.specs.declared.function.VFunc.{VFunc}
use Rattle.vcode.specs.Prelude.{is_paid, keeps_places, is_place, are_near, are_distinct, located, line_keeps, jump_keeps, same_location, coded, line_cost, jump_cost, virtual}
use Rattle.certificates.specs.declared.certificate.Equality.{Equality}
use Rattle.certificates.specs.declared.certificate.Certificate.{Certificate}
use Rattle.certificates.specs.Listed.{has, slotted}
pub use Rattle.certificates.specs.Listed.{end_point}
use Rattle.alloc_check.specs.Certified.{are_apart, placed_by, is_sound, starts_at, layout_at, next_point, jump_point, places_at}
use Rattle.std.specs.Option.{option_map_or}
use Rattle.vcode.specs.declared.place.Location.TheVariants.{Slot}
use Rattle.vcode.specs.declared.place.Destination.{Destination}
use Rattle.vcode.specs.declared.line.Line.{Line}
use Rattle.vcode.specs.declared.line.Jump.{Jump}
use Rattle.vcode.specs.declared.line.Jump.TheVariants.{Goto, Branch, Return, Halt}
use Rattle.vcode.specs.declared.code.Block.{Block}
use Rattle.certificates.specs.declared.certificate.Transfer.{Transfer}
use Rattle.cfg_live.specs.Registers.{line_reads, line_writes, jump_reads}
use Rattle.vcode.specs.declared.place.Operand.{Operand}
use Rattle.vcode.specs.declared.place.Operand.TheVariants.{At}
use Rattle.vcode.specs.declared.place.Argument.{Argument}
use Rattle.vcode.specs.declared.line.Line.TheVariants.{Set, Call}
use Rattle.il_ast.specs.Prelude.{Keeps}
use Rattle.bitset.specs.Bits.{Bits}
use Rattle.cfg_live.specs.Rows.{graph_of, AreLive}
use Rattle.alloc_check.specs.Placed.{in_slots}

-- ---- which certificates are accepted

-- an equality of a register and a place that there are
abbrev pub exists_in : (registers : ℕ) → Equality → Bool
exists_in registers e = is_place registers e.place && nat_lt e.register registers

abbrev pub equalities_exist : (registers : ℕ) → List (List Equality) → Bool
equalities_exist registers lists =
    list_all (λ (es : List Equality). list_all (exists_in registers) es) lists

-- no register has two places
abbrev pub names_once : List Equality → Bool
names_once [] = true
names_once (e ∷ es) = not (has es e.register) && names_once es

-- a place for each parameter, what holds for each block, moves and places for each point, and no
-- more
abbrev pub has_lengths : Code ℕ → Certificate → Bool
has_lengths v c =
    nat_eq (length c.params) (length v.params)
    && (nat_eq (length c.starts) (length v.blocks)
    && (nat_eq (end_point 0 v.blocks) (length c.moves)
    && nat_eq (end_point 0 v.blocks) (length c.places)))

-- its lists are as long as they must be, name registers and places that there are, and no register
-- twice for one point
abbrev pub is_whole : VFunc → Certificate → Bool
is_whole v c =
    has_lengths v.code c
    && (list_all (exists_in v.registers) c.everywhere
    && (equalities_exist v.registers c.starts
    && (equalities_exist v.registers c.places && list_all names_once c.places)))

-- location code over so many slots that a function may have: its places exist, its parameters are
-- near and apart, and its ticks pay for its moves too
abbrev pub is_placed : (slots : ℕ) → Code Location → Bool
is_placed slots l =
    keeps_places (is_place slots) l && (are_near l.params
    && (are_distinct located l.params && list_all is_paid l.blocks))

-- the certificate is whole, what holds everywhere is apart, and it is sound and makes a function
abbrev pub is_accepted : VFunc → Certificate → Bool
is_accepted v c =
    is_whole v c && (are_apart c.everywhere && (is_sound v.code c
    && is_placed v.registers (placed_by v.code c)))

abbrev pub is_empty : List Transfer → Bool
is_empty [] = true
is_empty (m ∷ ms) = false

-- a register that there is, in its slot
abbrev pub is_own : (registers : ℕ) → Equality → Bool
is_own registers e = same_location e.place (Slot e.register) && nat_lt e.register registers

-- the place of the register at point p is its slot
abbrev pub own_at : Certificate → ℕ → ℕ → Bool
own_at c p r = same_location (layout_at c p r) (Slot r)

abbrev pub lines_own : Certificate → ℕ → Jump ℕ → List (Line ℕ) → Bool
lines_own c p j [] = jump_keeps (own_at c p) j
lines_own c p j (l ∷ lines) = line_keeps (own_at c p) l && lines_own c (next_point p l) j lines

abbrev pub blocks_own : Certificate → ℕ → List (Block ℕ) → Bool
blocks_own c p [] = true
blocks_own c p (b ∷ blocks) =
    lines_own c p b.jump b.lines && blocks_own c (jump_point p b.lines + 1) blocks

-- ---- what is wanted at a point: all that it reads, and all that is wanted behind it but for what
-- it writes

abbrev pub Wanted : Type 0
Wanted = ℕ → ℕ → Bool

-- what the certificate knows of a block's start is wanted at p
abbrev pub start_wanted : Wanted → Certificate → (p k : ℕ) → Bool
start_wanted wanted c p k = list_all (λ (e : Equality). wanted p e.register) (starts_at c k)

abbrev pub targets_wanted : Wanted → Certificate → ℕ → Jump ℕ → Bool
targets_wanted wanted c p (Goto k) = start_wanted wanted c p k
targets_wanted wanted c p (Branch on met otherwise) =
    start_wanted wanted c p met && start_wanted wanted c p otherwise
targets_wanted wanted c p (Return a) = true
targets_wanted wanted c p Halt = true

abbrev pub writes_to : Line ℕ → ℕ → Bool
writes_to l r = option_map_or (λ k. nat_eq k r) (line_writes l) false

abbrev pub LinesWant : Wanted → Certificate → ℕ → Jump ℕ → List (Line ℕ) → Type 0
LinesWant wanted c p j [] =
    (list_all (wanted p) (jump_reads j) ≡ true) × (targets_wanted wanted c p j ≡ true)
LinesWant wanted c p j (l ∷ lines) =
    (list_all (wanted p) (line_reads l) ≡ true)
    × (((r : ℕ) → wanted (next_point p l) r ≡ true → (wanted p r || writes_to l r) ≡ true)
    × LinesWant wanted c (next_point p l) j lines)

abbrev pub names : List Equality → ℕ → Bool
names es r = list_any (λ (e : Equality). nat_eq e.register r) es

abbrev pub BlocksWant : Wanted → Certificate → (p k : ℕ) → List (Block ℕ) → Type 0
BlocksWant wanted c p k [] = Unit {0}
BlocksWant wanted c p k (b ∷ blocks) =
    ((r : ℕ) → wanted p r ≡ true → names (starts_at c k) r ≡ true)
    × (LinesWant wanted c p b.jump b.lines × BlocksWant wanted c (jump_point p b.lines + 1) (k + 1)
    blocks)

pub record IsSlotted (wanted : Wanted) (v : VFunc) (c : Certificate) : Type 0 where
  pub params : c.params ≡ map (λ (d : Destination ℕ). Slot d.place) v.code.params
  pub lengths : has_lengths v.code c ≡ true
  pub still : list_all is_empty c.moves ≡ true
  pub everywhere : c.everywhere ≡ []
  pub starts : list_all (λ (es : List Equality). list_all (is_own v.registers) es) c.starts ≡ true
  pub owned : list_all (λ (es : List Equality). list_all (is_own v.registers) es) c.places ≡ true
  pub once : list_all names_once c.places ≡ true
  pub places : blocks_own c 0 v.code.blocks ≡ true
  pub wants : BlocksWant wanted c 0 0 v.code.blocks

-- ---- the laws of certificates

-- the code that a sound certificate makes keeps the virtual code
abbrev pub SoundKeeps : Type 0
SoundKeeps =
    (v : Code ℕ) (c : Certificate) → is_sound v c ≡ true →
    Keeps (coded virtual v) (coded located (placed_by v c))

-- with each register in its slot the code is that in slots, and is accepted
abbrev pub SlotsAreAccepted : Type 0
SlotsAreAccepted =
    (wanted : Wanted) (v : VFunc) (c : Certificate)
    → IsSlotted wanted v c
    → (is_accepted v c ≡ true) × (placed_by v.code c ≡ in_slots v.code)

-- so the certificate that names just the live registers where a block begins
abbrev pub SpillAllIsAccepted : Type 0
SpillAllIsAccepted =
    (v : VFunc) (rows : List Bits)
    → AreLive (graph_of v.code) v.registers rows
    → (is_accepted v (slotted v.code v.registers rows) ≡ true)
    × (placed_by v.code (slotted v.code v.registers rows) ≡ in_slots v.code)

-- each register that a line from point p on or the jump reads or writes has a place there
abbrev pub lines_named : Certificate → ℕ → Jump ℕ → List (Line ℕ) → Bool
lines_named c p j [] = jump_keeps (has (places_at c p)) j
lines_named c p j (l ∷ lines) =
    line_keeps (has (places_at c p)) l && lines_named c (next_point p l) j lines

abbrev pub blocks_named : Certificate → ℕ → List (Block ℕ) → Bool
blocks_named c p [] = true
blocks_named c p (b ∷ blocks) =
    lines_named c p b.jump b.lines && blocks_named c (jump_point p b.lines + 1) blocks

-- an accepted certificate has for each point one place for each register that it reads or writes
abbrev pub EachHasOnePlace : Type 0
EachHasOnePlace =
    (v : VFunc) (c : Certificate) → is_accepted v c ≡ true →
    (blocks_named c 0 v.code.blocks ≡ true) × (list_all names_once c.places ≡ true)

-- a call weighs one and one for each argument, a jump one; each unit pays for 32 instructions: that
-- is enough for a move before it too
abbrev pub OneMoveIsPaid : Type 0
OneMoveIsPaid =
    ((from to : Location) (d : Option (Destination Location)) (callee : Operand Location)
    (args : List (Argument Location))
    → line_cost (Set to (At from)) + line_cost (Call d callee args) ≤ 32 * (1 + length args))
    × ((from to : Location) (j : Jump Location) → line_cost (Set to (At from)) + jump_cost j ≤ 32)
