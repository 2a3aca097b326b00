-- The labelled code of a function keeps the invariants of such code.
use Rattle.std.proofs.Common.{suc, ◌≡◌, ℕ, ◌+◌, ◌^◌, ◌<◌, ◌≤◌, Bool, true, false, List, [], ◌∷◌, ◌++◌, refl, sym, subst, arith, lit≤, zero-add, ◌&&◌, not, nat_eq, nat_le, nat_lt, if◌then◌else◌, length, Some, None}
use Rattle.abi_frames.proofs.Shared.{Condition, Item, Plain, Label, Location, Destination, Comparison, Jump, Block, Code, Layout, list_all, and_parts, and_from, leb-true, lt-ltb, all_append, longest_size, nat_tests}
use Rattle.rv_isa.specs.Prelude.{IsLabelled, times_labelled, has_label_below}
use Rattle.rv_isa.specs.declared.instruction.Instr.TheVariants.{Ebreak}
use Rattle.rv_isa.specs.declared.labelled.Item.TheVariants.{Branch as BranchTo, Goto as GoTo, Call as CallTo, Relocated}
use Rattle.vcode.specs.declared.line.Jump.TheVariants.{Goto, Branch, Return, Halt}
use Rattle.vcode.specs.Prelude.{leads_inside, is_target}
use Rattle.abi_frames.specs.Performs.{layout, saved_registers}
use Rattle.abi_frames.specs.Emission.{lines_items, raise_pointer, restore_all, go_back, prologue, epilogue, goto_items, branch_when, inverted, ways_items, branch_items, compared_source, leave_items, left_behind, copies_end, left_by_value, jump_items, body_items, rows, blocks_items}
use Rattle.abi_frames.specs.Functions.{entry_items, function_items}
use Rattle.abi_frames.specs.Examples.{IsCode}
use Rattle.operation_code.proofs.Leading.{longest-append}
use Rattle.abi_frames.proofs.Saving.{few_saved_registers}
use Rattle.abi_frames.proofs.Outgoing.{slots_near}
use Rattle.abi_frames.proofs.Branching.{whichever}
use Rattle.abi_frames.proofs.Sizes.{is_instruction, Instructions, lines_alone, compared_size, epilogue_size, prologue_size, entry_size, result_size}

-- ---- labels

-- labels below n, each of which stands at most as often as this
pub record Labelled (n : ℕ) (own : ℕ → ℕ) (is : List Item) : Type 0 where
  pub labels : list_all (has_label_below n) is ≡ true
  pub once : (l : ℕ) → times_labelled l is ≤ own l

-- none of its own
abbrev pub none : ℕ → ℕ
none l = 0

abbrev pub only : (label : ℕ) → ℕ → ℕ
only k l = if nat_eq k l then 1 else 0

-- those from k on, so many
abbrev pub numbered : (k count : ℕ) → ℕ → ℕ
numbered k n l = if nat_le k l && nat_lt l (k + n) then 1 else 0

pub times-append : (l : ℕ) (is js : List Item) → times_labelled l (is ++ js) ≡ times_labelled l is + times_labelled l js
times-append l [] js = sym (zero-add (times_labelled l js))
times-append l (i ∷ is) js = let rest = times-append l is js in omega (arith, rest)

pub no_items : {n : ℕ} {f : ℕ → ℕ} → Labelled n f []
no_items {f = f} = record { labels = refl; once = λ l. omega arith }

pub labelled_then : {n : ℕ} {f g : ℕ → ℕ} {is js : List Item} → Labelled n f is → Labelled n g js → Labelled n (λ l. f l + g l) (is ++ js)
labelled_then {n = n} {is = is} {js = js} h k = record {
  labels = all_append (has_label_below n) is js h.labels k.labels;
  once = λ l. let all = times-append l is js in let a = h.once l in let b = k.once l in omega (arith, all, a, b);
}

pub at_most : {n : ℕ} {f g : ℕ → ℕ} {is : List Item} → ((l : ℕ) → f l ≤ g l) → Labelled n f is → Labelled n g is
at_most few h = record { labels = h.labels; once = λ l. let a = h.once l in let b = few l in omega (arith, a, b) }

-- behind code without a label
pub plainly : {n : ℕ} {g : ℕ → ℕ} {is js : List Item} → Labelled n none is → Labelled n g js → Labelled n g (is ++ js)
plainly h k = at_most (λ l. omega arith) (labelled_then h k)

pub either_labelled : {n : ℕ} {f : ℕ → ℕ} {is js : List Item} (b : Bool) → Labelled n f is → Labelled n f js → Labelled n f (if b then is else js)
either_labelled true h k = h
either_labelled false h k = k

-- behind a label
pub label_then : {n l : ℕ} {is : List Item} → l < n → Labelled n none is → Labelled n (only l) (Label l ∷ is)
label_then {n} {l} {is} low plain = record {
  labels = and_from (nat_lt l n) (list_all (has_label_below n) is) (lt-ltb l n low) plain.labels;
  once = λ k. let few = plain.once k in omega (arith, few);
}

-- instructions
pub alone_labelled : (n : ℕ) (is : List Item) → list_all is_instruction is ≡ true → Labelled n none is
alone_labelled n [] h = no_items
alone_labelled n (Plain i ∷ is) h = let rest = alone_labelled n is h in record { labels = rest.labels; once = λ l. let few = rest.once l in omega (arith, few) }
alone_labelled n (Label l ∷ is) h = absurd (let no : ⊥ = cc in no)
alone_labelled n (BranchTo op a b l ∷ is) h = absurd (let no : ⊥ = cc in no)
alone_labelled n (GoTo l ∷ is) h = absurd (let no : ⊥ = cc in no)
alone_labelled n (CallTo g ∷ is) h = let rest = alone_labelled n is h in record { labels = rest.labels; once = λ l. let few = rest.once l in omega (arith, few) }
alone_labelled n (Relocated r ∷ is) h = let rest = alone_labelled n is h in record { labels = rest.labels; once = λ l. let few = rest.once l in omega (arith, few) }

pub instructions_labelled : {n most : ℕ} {is : List Item} → Instructions most is → Labelled n none is
instructions_labelled {n = n} {is = is} h = alone_labelled n is h.alone

-- ---- jumps

target_below : (blocks n k : ℕ) → blocks < n → is_target blocks k ≡ true → k < n
target_below blocks n k h e =
    let below = (and_parts (nat_lt 0 k) (nat_lt k blocks) e).1 in
    grind (arith, nat_tests)

pub goto_labelled : (n k : ℕ) → k < n → Labelled n none (GoTo k ∷ [])
goto_labelled n k h = record { labels = and_from (nat_lt k n) true (lt-ltb k n h) refl; once = λ l. lit≤ tt }

goto_items_labelled : (n : ℕ) (y : Layout) (next k : ℕ) → k < n → Labelled n none (goto_items y next k)
goto_items_labelled n y next k h = either_labelled (y.falls && nat_eq k next) no_items (goto_labelled n k h)

when_labelled : (n : ℕ) (on : Condition) (v w k : ℕ) → k < n → Labelled n none (branch_when on v w k ∷ [])
when_labelled n on v w k h =
    whichever (λ i. Labelled n none (i ∷ [])) on v w k
    (λ op a b. record { labels = and_from (nat_lt k n) true (lt-ltb k n h) refl; once = λ l. lit≤ tt })

ways_labelled : (n : ℕ) (y : Layout) (next : ℕ) (on : Condition) (v w met otherwise : ℕ) → met < n → otherwise < n
    → Labelled n none (ways_items y next on v w met otherwise)
ways_labelled n y next on v w met otherwise first second =
    either_labelled (y.falls && nat_eq met next) (when_labelled n (inverted on) v w otherwise second)
    (plainly (when_labelled n on v w met first) (goto_items_labelled n y next otherwise second))

branch_labelled : (n : ℕ) (y : Layout) (next : ℕ) (c : Comparison Location) (met otherwise : ℕ) → met < n → otherwise < n
    → Labelled n none (branch_items y next c met otherwise)
branch_labelled n y next c met otherwise first second =
    plainly (instructions_labelled (compared_size y c.condition c.class 28 c.left))
    (plainly (instructions_labelled (compared_size y c.condition c.class 29 c.right))
    (ways_labelled n y next c.condition (compared_source c 28 c.left) (compared_source c 29 c.right) met otherwise first second))

leave_labelled : (n : ℕ) (y : Layout) (rs : List ℕ) (next left : ℕ) → length rs ≤ 13 → y.leave < n → Labelled n none (leave_items y rs next left)
leave_labelled n y rs next left few leave =
    either_labelled (copies_end y rs left && not (y.falls && nat_eq y.leave next)) (instructions_labelled (epilogue_size y rs few)) (goto_items_labelled n y next y.leave leave)

jump_labelled : (n : ℕ) (y : Layout) (rs : List ℕ) (next left blocks : ℕ) (j : Jump Location) → length rs ≤ 13 → y.leave < n → blocks < n → leads_inside blocks j ≡ true
    → Labelled n none (jump_items y rs next left j)
jump_labelled n y rs next left blocks (Goto k) few leave more inside = goto_items_labelled n y next k (target_below blocks n k more inside)
jump_labelled n y rs next left blocks (Branch c met otherwise) few leave more inside =
    let parts = and_parts (is_target blocks met) (is_target blocks otherwise) inside in
    branch_labelled n y next c met otherwise (target_below blocks n met more parts.0) (target_below blocks n otherwise more parts.1)
jump_labelled n y rs next left blocks (Return None) few leave more inside = leave_labelled n y rs next left few leave
jump_labelled n y rs next left blocks (Return (Some a)) few leave more inside =
    plainly (instructions_labelled (result_size y y.result a)) (leave_labelled n y rs next (left_by_value left) few leave)
jump_labelled n y rs next left blocks Halt few leave more inside = alone_labelled n (Plain Ebreak ∷ []) refl

-- ---- blocks

-- the lines and the jump of a block
pub body_labelled : (n : ℕ) (y : Layout) (rs : List ℕ) (blocks k : ℕ) (b : Block Location) → length rs ≤ 13 → y.leave < n → blocks < n → leads_inside blocks b.jump ≡ true
    → Labelled n none (body_items y rs k b)
body_labelled n y rs blocks k b few leave more inside =
    plainly (alone_labelled n (lines_items y 0 b.lines) (lines_alone y 0 b.lines)) (jump_labelled n y rs (k + 1) (left_behind 0 b.lines) blocks b.jump few leave more inside)

pub one_more : (k l : ℕ) (b : Block Location) (blocks : List (Block Location)) → only k l + numbered (k + 1) (length blocks) l ≤ numbered k (length (b ∷ blocks)) l
one_more k l b blocks = subst (λ n. only k l + numbered (k + 1) (length blocks) l ≤ numbered k n l) (count (length blocks)) (step k (length blocks) l)
  where
    count : (n : ℕ) → n + 1 ≡ suc n
    count n = omega arith

    step : (k n l : ℕ) → only k l + numbered (k + 1) n l ≤ numbered k (n + 1) l
    step k n l = grind (arith, nat_tests)

-- what is made of each block, behind its label
pub rows_labelled : (n : ℕ) (body : ℕ → Block Location → List Item) (all k : ℕ) (blocks : List (Block Location)) → k + length blocks ≤ n
    → list_all (λ (b : Block Location). leads_inside all b.jump) blocks ≡ true
    → ((i : ℕ) (b : Block Location) → leads_inside all b.jump ≡ true → Labelled n none (body i b)) → Labelled n (numbered k (length blocks)) (rows (λ l. l) body k blocks)
rows_labelled n body all k [] few inside each = no_items
rows_labelled n body all k (b ∷ blocks) few inside each =
    let parts = and_parts (leads_inside all b.jump) (list_all (λ (d : Block Location). leads_inside all d.jump) blocks) inside in
    at_most (λ l. one_more k l b blocks)
    (labelled_then (label_then {is = body k b} (omega (arith, few)) (each k b parts.0)) (rows_labelled n body all (k + 1) blocks (omega (arith, few)) parts.1 each))

-- ---- functions

pub some_size : (y : Layout) (rs : List ℕ) → 0 < longest_size (epilogue y rs)
some_size y rs =
    let all = longest-append (restore_all y.saves rs) (raise_pointer y.size ++ (go_back ∷ [])) in
    let more = longest-append (raise_pointer y.size) (go_back ∷ []) in
    omega (arith, all, more)

pub some_behind : (is js : List Item) → 0 < longest_size js → 0 < longest_size (is ++ js)
some_behind is js some = let all = longest-append is js in omega (arith, all, some)

pub prologue_labelled : (n : ℕ) (f : Code Location) (y : Layout) → Labelled n none (prologue y (saved_registers f))
prologue_labelled n f y = instructions_labelled (prologue_size y (saved_registers f) (few_saved_registers f))

pub epilogue_labelled : (n : ℕ) (f : Code Location) (y : Layout) → Labelled n none (epilogue y (saved_registers f))
epilogue_labelled n f y = instructions_labelled (epilogue_size y (saved_registers f) (few_saved_registers f))

pub entry_labelled : (n : ℕ) (f : Code Location) (slots : ℕ) (y : Layout) → IsCode f slots → y.slots < 1024 → Labelled n none (entry_items y f.params)
entry_labelled n f slots y is few = instructions_labelled (entry_size y f.params few (leb-true (length f.params) 64 is.regular.few_params) is.near)

-- one label for each block, and one for the end of the frame
abbrev pub itself : (blocks : ℕ) → ℕ → ℕ
itself n l = numbered 0 n l + only n l

itself_labelled : (m : ℕ) (f : Code Location) (slots : ℕ) → IsCode f slots → length f.blocks < m
    → Labelled m (itself (length f.blocks)) (function_items (layout f slots) (saved_registers f) f.params f.blocks)
itself_labelled m f slots is low =
    let y : Layout = layout f slots in
    plainly (prologue_labelled m f y)
    (plainly (entry_labelled m f slots y is (slots_near f is.regular))
    (labelled_then
    (rows_labelled m (body_items y (saved_registers f)) (length f.blocks) 0 f.blocks (omega (arith, low)) is.regular.inside
    (λ i b inside. body_labelled m y (saved_registers f) (length f.blocks) i b (few_saved_registers f) low low inside))
    (label_then low (epilogue_labelled m f y))))

some_function : (y : Layout) (rs : List ℕ) (params : List (Destination Location)) (blocks : List (Block Location)) → 0 < longest_size (function_items y rs params blocks)
some_function y rs params blocks =
    some_behind (prologue y rs) _
    (some_behind (entry_items y params) _
    (some_behind (blocks_items y rs 0 blocks) (Label y.leave ∷ epilogue y rs) (let some = some_size y rs in omega (arith, some))))

pub function_labelled : (f : Code Location) (slots : ℕ) → IsCode f slots
    → longest_size (function_items (layout f slots) (saved_registers f) f.params f.blocks) < 2 ^ 28
    → IsLabelled (record { items = function_items (layout f slots) (saved_registers f) f.params f.blocks; labels = length f.blocks + 2 })
function_labelled f slots is near =
    let whole = at_most (one (length f.blocks)) (itself_labelled (length f.blocks + 2) f slots is (omega arith)) in
    record { labels = whole.labels; once = whole.once; not_empty = some_function (layout f slots) (saved_registers f) f.params f.blocks; near = near }
  where
    one : (n l : ℕ) → itself n l ≤ 1
    one n l = grind (arith, nat_tests)
