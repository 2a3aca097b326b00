-- A certificate that has each register in its slot makes the code in slots, and is accepted.
use Rattle.std.proofs.Common.{◌≡◌, ℕ, zero, suc, ◌+◌, Bool, true, false, not, ◌&&◌, ◌||◌, nat_eq, nat_lt, if◌then◌else◌, List, [], ◌∷◌, ◌++◌, map, slice_get, Option, Some, None, refl, sym, ◌∙◌, ap, arith, inl, inr, ◌⊎◌}
use Rattle.std.specs.List.{list_all}
use Rattle.std.specs.Option.{option_map, option_map_or}
use Rattle.std.proofs.lemmas.Bool.Decides.{nat_tests}
use Rattle.std.proofs.lemmas.Bool.{and_parts, or_cases}
use Rattle.vcode.specs.declared.place.Location.{Location}
use Rattle.vcode.specs.declared.place.Location.TheVariants.{Slot}
use Rattle.vcode.specs.declared.place.Operand.{Operand}
use Rattle.vcode.specs.declared.place.Address.{Address}
use Rattle.vcode.specs.declared.place.Operand.TheVariants.{At, Number, Name}
use Rattle.vcode.specs.declared.place.Destination.{Destination}
use Rattle.vcode.specs.declared.place.Argument.{Argument}
use Rattle.vcode.specs.declared.line.Line.{Line}
use Rattle.vcode.specs.declared.line.Line.TheVariants.{Tick, Set, Operate, Load, Store, Alloc, Blit, Call}
use Rattle.vcode.specs.declared.line.Jump.{Jump}
use Rattle.vcode.specs.declared.line.Jump.TheVariants.{Goto, Branch, Return, Halt}
use Rattle.vcode.specs.declared.code.Block.{Block}
use Rattle.vcode.specs.declared.function.VFunc.{VFunc}
use Rattle.vcode.specs.Prelude.{is_paid, operand_keeps, wanted_keeps, line_keeps, jump_keeps, keeps_places, is_place, are_near, are_distinct, located, same_location}
use Rattle.certificates.specs.declared.certificate.Equality.{Equality}
use Rattle.certificates.specs.declared.certificate.Transfer.{Transfer}
use Rattle.certificates.specs.declared.certificate.Certificate.{Certificate}
use Rattle.cfg_live.specs.Registers.{with_operand, with_args, line_reads, jump_reads}
use Rattle.alloc_check.specs.Prelude.{placed_operand, placed_address, placed_argument, placed_destination, placed_line, placed_jump, placed_block, in_slots, Owners, nobody, other_than, own_put, own_also, own_kept, moved, known, owns, operand_held, args_held, all_hold, are_apart, where_held, received, after_line, moves_at, begins_at, starts_at, layout_at, transfers, next_point, jump_point, certified_lines, certified_blocks, certified_params, placed_by, jump_right, lines_right, blocks_right, own_params, is_param, params_placed, entry_right, is_sound, exists_in, equalities_exist, names_once, is_whole, is_placed, is_accepted, is_empty, is_own, own_at, lines_own, blocks_own, Wanted, start_wanted, targets_wanted, writes_to, LinesWant, names, BlocksWant, IsSlotted, moves_before}
use Rattle.alloc_check.proofs.Agreeing.{same_is}
use Rattle.alloc_check.proofs.Certifies.{line_on}
use Rattle.alloc_check.proofs.Regular.{slots_regular, slots_known, slots_near, slots_apart}
use Rattle.il_ast.proofs.Truth.{and_true}
use Rattle.alloc_check.proofs.Untouched.{owned}

-- ---- the code

own_is : (c : Certificate) (p r : ℕ) → own_at c p r ≡ true → layout_at c p r ≡ Slot r
own_is c p r h = same_is (layout_at c p r) (Slot r) h

operand_slot : (c : Certificate) (p : ℕ) (a : Operand ℕ) → operand_keeps (own_at c p) a ≡ true → placed_operand (layout_at c p) a ≡ placed_operand Slot a
operand_slot c p (At r) h = ap (λ (q : Location). At q) (own_is c p r h)
operand_slot c p (Number n) h = refl
operand_slot c p (Name g) h = refl

to_slot : (c : Certificate) (p : ℕ) (to : Option (Destination ℕ)) → wanted_keeps (own_at c p) to ≡ true → option_map (placed_destination (layout_at c p)) to ≡ option_map (placed_destination Slot) to
to_slot c p None h = refl
to_slot c p (Some d) h = ap (λ (q : Location). Some (record { place = q; class = d.class })) (own_is c p d.place h)

args_slot : (c : Certificate) (p : ℕ) (args : List (Argument ℕ)) → list_all (λ (a : Argument ℕ). operand_keeps (own_at c p) a.value) args ≡ true
    → map (placed_argument (layout_at c p)) args ≡ map (placed_argument Slot) args
args_slot c p [] h = refl
args_slot c p (a ∷ args) h =
    let s = and_parts (operand_keeps (own_at c p) a.value) (list_all (λ (x : Argument ℕ). operand_keeps (own_at c p) x.value) args) h in
    ap (λ (v : Operand Location). record { class = a.class; value = v; extension = a.extension } ∷ map (placed_argument (layout_at c p)) args) (operand_slot c p a.value s.0)
    ∙ ap (λ xs. placed_argument Slot a ∷ xs) (args_slot c p args s.1)

address_slot : (c : Certificate) (p : ℕ) (at : Address ℕ) → operand_keeps (own_at c p) at.base ≡ true → placed_address (layout_at c p) at ≡ placed_address Slot at
address_slot c p at h = ap (λ (a : Operand Location). record { base = a; offset = at.offset }) (operand_slot c p at.base h)

line_slot : (c : Certificate) (p : ℕ) (l : Line ℕ) → line_keeps (own_at c p) l ≡ true → placed_line (layout_at c p) l ≡ placed_line Slot l
line_slot c p (Tick turn w) h = refl
line_slot c p (Set to a) h =
    let s = and_parts (own_at c p to) (operand_keeps (own_at c p) a) h in
    ap (λ (q : Location). Set q (placed_operand (layout_at c p) a)) (own_is c p to s.0) ∙ ap (λ x. Set (Slot to) x) (operand_slot c p a s.1)
line_slot c p (Operate to op a b) h =
    let s = and_parts (own_at c p to) (operand_keeps (own_at c p) a && operand_keeps (own_at c p) b) h in
    let t = and_parts (operand_keeps (own_at c p) a) (operand_keeps (own_at c p) b) s.1 in
    ap (λ (q : Location). Operate q op (placed_operand (layout_at c p) a) (placed_operand (layout_at c p) b)) (own_is c p to s.0)
    ∙ ap (λ x. Operate (Slot to) op x (placed_operand (layout_at c p) b)) (operand_slot c p a t.0)
    ∙ ap (λ x. Operate (Slot to) op (placed_operand Slot a) x) (operand_slot c p b t.1)
line_slot c p (Load to op at) h =
    let s = and_parts (own_at c p to) (operand_keeps (own_at c p) at.base) h in
    ap (λ (q : Location). Load q op (placed_address (layout_at c p) at)) (own_is c p to s.0) ∙ ap (λ x. Load (Slot to) op x) (address_slot c p at s.1)
line_slot c p (Store size a at) h =
    let t = and_parts (operand_keeps (own_at c p) a) (operand_keeps (own_at c p) at.base) h in
    ap (λ x. Store size x (placed_address (layout_at c p) at)) (operand_slot c p a t.0) ∙ ap (λ x. Store size (placed_operand Slot a) x) (address_slot c p at t.1)
line_slot c p (Alloc None size) h = refl
line_slot c p (Alloc (Some r) size) h = ap (λ (q : Location). Alloc (Some q) size) (own_is c p r h)
line_slot c p (Blit from to count) h =
    let t = and_parts (operand_keeps (own_at c p) from) (operand_keeps (own_at c p) to) h in
    ap (λ x. Blit x (placed_operand (layout_at c p) to) count) (operand_slot c p from t.0) ∙ ap (λ x. Blit (placed_operand Slot from) x count) (operand_slot c p to t.1)
line_slot c p (Call to callee args) h =
    let s = and_parts (wanted_keeps (own_at c p) to) (operand_keeps (own_at c p) callee && list_all (λ (a : Argument ℕ). operand_keeps (own_at c p) a.value) args) h in
    let t = and_parts (operand_keeps (own_at c p) callee) (list_all (λ (a : Argument ℕ). operand_keeps (own_at c p) a.value) args) s.1 in
    ap (λ x. Call x (placed_operand (layout_at c p) callee) (map (placed_argument (layout_at c p)) args)) (to_slot c p to s.0)
    ∙ ap (λ x. Call (option_map (placed_destination Slot) to) x (map (placed_argument (layout_at c p)) args)) (operand_slot c p callee t.0)
    ∙ ap (λ x. Call (option_map (placed_destination Slot) to) (placed_operand Slot callee) x) (args_slot c p args t.1)

jump_slot : (c : Certificate) (p : ℕ) (j : Jump ℕ) → jump_keeps (own_at c p) j ≡ true → placed_jump (layout_at c p) j ≡ placed_jump Slot j
jump_slot c p (Goto k) h = refl
jump_slot c p (Branch on met otherwise) h =
    let t = and_parts (operand_keeps (own_at c p) on.left) (operand_keeps (own_at c p) on.right) h in
    ap (λ x. Branch (record { condition = on.condition; class = on.class; left = x; right = placed_operand (layout_at c p) on.right }) met otherwise) (operand_slot c p on.left t.0)
    ∙ ap (λ x. Branch (record { condition = on.condition; class = on.class; left = placed_operand Slot on.left; right = x }) met otherwise) (operand_slot c p on.right t.1)
jump_slot c p (Return None) h = refl
jump_slot c p (Return (Some a)) h = ap (λ x. Return (Some (record { value = x; extension = a.extension }))) (operand_slot c p a.value h)
jump_slot c p Halt h = refl

no_moves : (moves : List (List Transfer)) (p : ℕ) → list_all is_empty moves ≡ true → option_map_or (λ (ms : List Transfer). ms) (slice_get moves p) [] ≡ []
no_moves [] p h = refl
no_moves ([] ∷ moves) zero h = refl
no_moves ((m ∷ ms) ∷ moves) zero h = cc
no_moves (ms ∷ moves) (suc p) h = no_moves moves p (and_parts (is_empty ms) (list_all is_empty moves) h).1

none_before : (c : Certificate) (p : ℕ) (l : Line ℕ) → moves_at c p ≡ [] → moves_before c p l ≡ []
none_before c p (Tick turn w) h = refl
none_before c p (Set to a) h = h
none_before c p (Operate to op a b) h = h
none_before c p (Load to op at) h = h
none_before c p (Store size a at) h = h
none_before c p (Alloc to size) h = h
none_before c p (Blit from to count) h = h
none_before c p (Call to callee args) h = h

lines_slot : (c : Certificate) (p : ℕ) (j : Jump ℕ) (lines : List (Line ℕ)) → list_all is_empty c.moves ≡ true → lines_own c p j lines ≡ true
    → (certified_lines c p lines ≡ map (placed_line Slot) lines) × (placed_jump (layout_at c (jump_point p lines)) j ≡ placed_jump Slot j)
lines_slot c p j [] still h = (ap transfers (no_moves c.moves p still), jump_slot c p j h)
lines_slot c p j (l ∷ lines) still h =
    let s = and_parts (line_keeps (own_at c p) l) (lines_own c (next_point p l) j lines) h in
    let rest = lines_slot c (next_point p l) j lines still s.1 in (
      line_on c p l lines
          ∙ ap (λ ms. transfers ms ++ placed_line (layout_at c p) l ∷ certified_lines c (next_point p l) lines) (none_before c p l (no_moves c.moves p still))
          ∙ ap (λ x. x ∷ certified_lines c (next_point p l) lines) (line_slot c p l s.0)
          ∙ ap (λ xs. placed_line Slot l ∷ xs) rest.0,
      rest.1,
    )

blocks_slot : (c : Certificate) (p : ℕ) (blocks : List (Block ℕ)) → list_all is_empty c.moves ≡ true → blocks_own c p blocks ≡ true
    → certified_blocks c p blocks ≡ map (placed_block Slot) blocks
blocks_slot c p [] still h = refl
blocks_slot c p (b ∷ blocks) still h =
    let s = and_parts (lines_own c p b.jump b.lines) (blocks_own c (jump_point p b.lines + 1) blocks) h in
    let made = lines_slot c p b.jump b.lines still s.0 in
    ap (λ (ls : List (Line Location)). record { lines = ls; jump = placed_jump (layout_at c (jump_point p b.lines)) b.jump } ∷ certified_blocks c (jump_point p b.lines + 1) blocks) made.0
    ∙ ap (λ (j : Jump Location). record { lines = map (placed_line Slot) b.lines; jump = j } ∷ certified_blocks c (jump_point p b.lines + 1) blocks) made.1
    ∙ ap (λ bs. placed_block Slot b ∷ bs) (blocks_slot c (jump_point p b.lines + 1) blocks still s.1)

params_slot : (ds : List (Destination ℕ)) → certified_params ds (map (λ (d : Destination ℕ). Slot d.place) ds) ≡ map (placed_destination Slot) ds
params_slot [] = refl
params_slot (d ∷ ds) = ap (λ xs. placed_destination Slot d ∷ xs) (params_slot ds)

pub slotted_code : (wanted : Wanted) (v : VFunc) (c : Certificate) → IsSlotted wanted v c → placed_by v.code c ≡ in_slots v.code
slotted_code wanted v c is =
    ap (λ (qs : List Location). record { result = v.code.result; params = certified_params v.code.params qs; blocks = certified_blocks c 0 v.code.blocks }) is.params
    ∙ ap (λ (ds : List (Destination Location)). record { result = v.code.result; params = ds; blocks = certified_blocks c 0 v.code.blocks }) (params_slot v.code.params)
    ∙ ap (λ (bs : List (Block Location)). record { result = v.code.result; params = map (placed_destination Slot) v.code.params; blocks = bs }) (blocks_slot c 0 v.code.blocks is.still is.places)

-- ---- it is a function's

pub slotted_placed : (wanted : Wanted) (v : VFunc) (c : Certificate) → IsSlotted wanted v c → is_placed v.registers (placed_by v.code c) ≡ true
slotted_placed wanted v c is =
    let l = in_slots v.code in
    let places : keeps_places (is_place v.registers) l ≡ true = slots_known v.registers v.code v.known in
    let near : are_near l.params ≡ true = slots_near v.code.params v.low in
    let apart : are_distinct located l.params ≡ true = slots_apart v.code.params v.distinct in
    let paid : list_all is_paid l.blocks ≡ true = (slots_regular v.code v.regular).paid in
    ap (is_placed v.registers) (slotted_code wanted v c is)
    ∙ ap (λ b. b && (are_near l.params && (are_distinct located l.params && list_all is_paid l.blocks))) places
    ∙ ap (λ b. b && (are_distinct located l.params && list_all is_paid l.blocks)) near
    ∙ ap (λ b. b && list_all is_paid l.blocks) apart
    ∙ paid

own_exists : (n : ℕ) (e : Equality) → is_own n e ≡ true → exists_in n e ≡ true
own_exists n e h =
    let s = and_parts (same_location e.place (Slot e.register)) (nat_lt e.register n) h in
    ap (λ (q : Location). is_place n q && nat_lt e.register n) (same_is e.place (Slot e.register) s.0) ∙ ap (λ b. b && nat_lt e.register n) s.1 ∙ s.1

all_exist : (n : ℕ) (es : List Equality) → list_all (is_own n) es ≡ true → list_all (exists_in n) es ≡ true
all_exist n [] h = refl
all_exist n (e ∷ es) h =
    let s = and_parts (is_own n e) (list_all (is_own n) es) h in
    ap (λ b. b && list_all (exists_in n) es) (own_exists n e s.0) ∙ all_exist n es s.1

own_all_exist : (n : ℕ) (starts : List (List Equality)) → list_all (λ (es : List Equality). list_all (is_own n) es) starts ≡ true → equalities_exist n starts ≡ true
own_all_exist n [] h = refl
own_all_exist n (es ∷ starts) h =
    let s = and_parts (list_all (is_own n) es) (list_all (λ (xs : List Equality). list_all (is_own n) xs) starts) h in
    ap (λ b. b && equalities_exist n starts) (all_exist n es s.0) ∙ own_all_exist n starts s.1

start_own : (n : ℕ) (starts : List (List Equality)) (k : ℕ) → list_all (λ (es : List Equality). list_all (is_own n) es) starts ≡ true
    → list_all (is_own n) (option_map_or (λ (es : List Equality). es) (slice_get starts k) []) ≡ true
start_own n [] k h = refl
start_own n (es ∷ starts) zero h = (and_parts (list_all (is_own n) es) (list_all (λ (xs : List Equality). list_all (is_own n) xs) starts) h).0
start_own n (es ∷ starts) (suc k) h = start_own n starts k (and_parts (list_all (is_own n) es) (list_all (λ (xs : List Equality). list_all (is_own n) xs) starts) h).1

starts_own : (n : ℕ) (c : Certificate) (k : ℕ) → c.everywhere ≡ [] → list_all (λ (es : List Equality). list_all (is_own n) es) c.starts ≡ true → list_all (is_own n) (starts_at c k) ≡ true
starts_own n c k none h = ap (λ (es : List Equality). list_all (is_own n) (es ++ begins_at c k)) none ∙ start_own n c.starts k h

-- ---- it is sound: what is wanted is held

abbrev pub Full : Wanted → ℕ → Owners → Type 0
Full wanted p own = (r : ℕ) → wanted p r ≡ true → own (Slot r) ≡ Some r

pub all_append : (test : ℕ → Bool) (xs ys : List ℕ) → list_all test (xs ++ ys) ≡ (list_all test xs && list_all test ys)
all_append test [] ys = refl
all_append test (x ∷ xs) ys = ap (λ b. test x && b) (all_append test xs ys) ∙ and_three (test x) (list_all test xs) (list_all test ys)
  where
    and_three : (a b d : Bool) → (a && (b && d)) ≡ ((a && b) && d)
    and_three true b d = refl
    and_three false b d = refl

pub operand_in : (test : ℕ → Bool) (rs : List ℕ) (a : Operand ℕ) → list_all test (with_operand rs a) ≡ (list_all test rs && operand_keeps test a)
operand_in test rs (At r) = all_append test rs (r ∷ []) ∙ ap (λ b. list_all test rs && b) (and_true (test r))
operand_in test rs (Number n) = sym (and_true (list_all test rs))
operand_in test rs (Name g) = sym (and_true (list_all test rs))

pub args_in : (test : ℕ → Bool) (rs : List ℕ) (args : List (Argument ℕ)) → list_all test (with_args rs args) ≡ (list_all test rs && list_all (λ (a : Argument ℕ). operand_keeps test a.value) args)
args_in test rs [] = sym (and_true (list_all test rs))
args_in test rs (a ∷ args) =
    args_in test (with_operand rs a.value) args
    ∙ ap (λ b. b && list_all (λ (x : Argument ℕ). operand_keeps test x.value) args) (operand_in test rs a.value)
    ∙ and_three (list_all test rs) (operand_keeps test a.value) (list_all (λ (x : Argument ℕ). operand_keeps test x.value) args)
  where
    and_three : (x b d : Bool) → ((x && b) && d) ≡ (x && (b && d))
    and_three true b d = refl
    and_three false b d = refl

pub two_in : (test : ℕ → Bool) (a b : Operand ℕ) → list_all test (with_operand (with_operand [] a) b) ≡ (operand_keeps test a && operand_keeps test b)
two_in test a b = operand_in test (with_operand [] a) b ∙ ap (λ x. x && operand_keeps test b) (operand_in test [] a)

operand_found : (wanted : Wanted) (c : Certificate) (p : ℕ) (own : Owners) (a : Operand ℕ) → Full wanted p own → operand_keeps (own_at c p) a ≡ true → operand_keeps (wanted p) a ≡ true
    → operand_held own (layout_at c p) a ≡ true
operand_found wanted c p own (At r) full at h = owned own (layout_at c p r) r (ap own (own_is c p r at) ∙ full r h)
operand_found wanted c p own (Number n) full at h = refl
operand_found wanted c p own (Name g) full at h = refl

args_found : (wanted : Wanted) (c : Certificate) (p : ℕ) (own : Owners) (args : List (Argument ℕ)) → Full wanted p own
    → list_all (λ (a : Argument ℕ). operand_keeps (own_at c p) a.value) args ≡ true → list_all (λ (a : Argument ℕ). operand_keeps (wanted p) a.value) args ≡ true
    → args_held own (layout_at c p) args ≡ true
args_found wanted c p own [] full at h = refl
args_found wanted c p own (a ∷ args) full at h =
    let s = and_parts (operand_keeps (own_at c p) a.value) (list_all (λ (x : Argument ℕ). operand_keeps (own_at c p) x.value) args) at in
    let t = and_parts (operand_keeps (wanted p) a.value) (list_all (λ (x : Argument ℕ). operand_keeps (wanted p) x.value) args) h in
    ap (λ b. b && args_held own (layout_at c p) args) (operand_found wanted c p own a.value full s.0 t.0) ∙ args_found wanted c p own args full s.1 t.1

put_slot : (own : Owners) (d : Location) (to r : ℕ) → d ≡ Slot to → (nat_eq to r ≡ true) ⊎ (own (Slot r) ≡ Some r) → own_put d to own (Slot r) ≡ Some r
put_slot own d to r is either = ap (λ (q : Location). own_put q to own (Slot r)) is ∙ by (nat_eq r to) refl either
  where
    by : (b : Bool) → nat_eq r to ≡ b → (nat_eq to r ≡ true) ⊎ (own (Slot r) ≡ Some r) → (if nat_eq r to then Some to else other_than to (own (Slot r))) ≡ Some r
    by true e h =
        let same : to ≡ r = grind (arith, nat_tests) in
        ap (λ b. if b then Some to else other_than to (own (Slot r))) e ∙ ap (λ k. Some k) same
    by false e (inl h) = let f : nat_eq r to ≡ true = grind (arith, nat_tests) in cc
    by false e (inr h) =
        ap (λ b. if b then Some to else other_than to (own (Slot r))) e ∙ ap (other_than to) h ∙ ap (λ b. if b then None else Some r) e

after_put : (wanted : Wanted) (c : Certificate) (p q to : ℕ) (own : Owners) → own_at c p to ≡ true → Full wanted p own
    → ((r : ℕ) → wanted q r ≡ true → (wanted p r || nat_eq to r) ≡ true) → Full wanted q (own_put (layout_at c p to) to own)
after_put wanted c p q to own at full flow r h =
    put_slot own (layout_at c p to) to r (own_is c p to at)
    (elim (or_cases (wanted p r) (nat_eq to r) (flow r h)) [
      | inl w ↦ inr (full r w)
      | inr e ↦ inl e
    ])

or_false : (b : Bool) → (b || false) ≡ true → b ≡ true
or_false true h = refl
or_false false h = cc

-- a line finds what it reads, and what is wanted behind it is held then
record Goes (wanted : Wanted) (c : Certificate) (p : ℕ) (own : Owners) (l : Line ℕ) : Type 0 where
  owners : Owners
  finds : after_line own (layout_at c p) l ≡ Some owners
  full : Full wanted (next_point p l) owners

goes_put : (wanted : Wanted) (c : Certificate) (p to : ℕ) (own : Owners) (b : Bool) → b ≡ true → own_at c p to ≡ true → Full wanted p own
    → ((r : ℕ) → wanted (p + 1) r ≡ true → (wanted p r || nat_eq to r) ≡ true)
    → (o : Owners) × ((where_held b (own_put (layout_at c p to) to own) ≡ Some o) × Full wanted (p + 1) o)
goes_put wanted c p to own b h at full flow =
    (own_put (layout_at c p to) to own, (ap (λ x. where_held x (own_put (layout_at c p to) to own)) h, after_put wanted c p (p + 1) to own at full flow))

line_goes : (wanted : Wanted) (c : Certificate) (p : ℕ) (own : Owners) (l : Line ℕ) → line_keeps (own_at c p) l ≡ true → Full wanted p own → list_all (wanted p) (line_reads l) ≡ true
    → ((r : ℕ) → wanted (next_point p l) r ≡ true → (wanted p r || writes_to l r) ≡ true) → Goes wanted c p own l
line_goes wanted c p own (Tick turn w) at full reads flow = record { owners = own; finds = refl; full = full }
line_goes wanted c p own (Set to a) at full reads flow =
    let s = and_parts (own_at c p to) (operand_keeps (own_at c p) a) at in
    let found = operand_found wanted c p own a full s.1 (sym (operand_in (wanted p) [] a) ∙ reads) in
    let o = goes_put wanted c p to own (operand_held own (layout_at c p) a) found s.0 full flow in
    record { owners = o.0; finds = o.1.0; full = o.1.1 }
line_goes wanted c p own (Operate to op a b) at full reads flow =
    let s = and_parts (own_at c p to) (operand_keeps (own_at c p) a && operand_keeps (own_at c p) b) at in
    let t = and_parts (operand_keeps (own_at c p) a) (operand_keeps (own_at c p) b) s.1 in
    let h = and_parts (operand_keeps (wanted p) a) (operand_keeps (wanted p) b) (sym (two_in (wanted p) a b) ∙ reads) in
    let found : (operand_held own (layout_at c p) a && operand_held own (layout_at c p) b) ≡ true =
    ap (λ x. x && operand_held own (layout_at c p) b) (operand_found wanted c p own a full t.0 h.0) ∙ operand_found wanted c p own b full t.1 h.1 in
    let o = goes_put wanted c p to own (operand_held own (layout_at c p) a && operand_held own (layout_at c p) b) found s.0 full flow in
    record { owners = o.0; finds = o.1.0; full = o.1.1 }
line_goes wanted c p own (Load to op x) at full reads flow =
    let s = and_parts (own_at c p to) (operand_keeps (own_at c p) x.base) at in
    let found = operand_found wanted c p own x.base full s.1 (sym (operand_in (wanted p) [] x.base) ∙ reads) in
    let o = goes_put wanted c p to own (operand_held own (layout_at c p) x.base) found s.0 full flow in
    record { owners = o.0; finds = o.1.0; full = o.1.1 }
line_goes wanted c p own (Store size a x) at full reads flow =
    let t = and_parts (operand_keeps (own_at c p) a) (operand_keeps (own_at c p) x.base) at in
    let h = and_parts (operand_keeps (wanted p) a) (operand_keeps (wanted p) x.base) (sym (two_in (wanted p) a x.base) ∙ reads) in
    let found : (operand_held own (layout_at c p) a && operand_held own (layout_at c p) x.base) ≡ true =
    ap (λ b. b && operand_held own (layout_at c p) x.base) (operand_found wanted c p own a full t.0 h.0) ∙ operand_found wanted c p own x.base full t.1 h.1 in
    record { owners = own; finds = ap (λ x. where_held x own) found; full = λ r w. full r (or_false (wanted p r) (flow r w)) }
line_goes wanted c p own (Alloc None size) at full reads flow =
    record { owners = own; finds = refl; full = λ r w. full r (or_false (wanted p r) (flow r w)) }
line_goes wanted c p own (Alloc (Some to) size) at full reads flow =
    record { owners = own_put (layout_at c p to) to own; finds = refl; full = after_put wanted c p (p + 1) to own at full flow }
line_goes wanted c p own (Blit a b count) at full reads flow =
    let t = and_parts (operand_keeps (own_at c p) a) (operand_keeps (own_at c p) b) at in
    let h = and_parts (operand_keeps (wanted p) a) (operand_keeps (wanted p) b) (sym (two_in (wanted p) a b) ∙ reads) in
    let found : (operand_held own (layout_at c p) a && operand_held own (layout_at c p) b) ≡ true =
    ap (λ x. x && operand_held own (layout_at c p) b) (operand_found wanted c p own a full t.0 h.0) ∙ operand_found wanted c p own b full t.1 h.1 in
    record { owners = own; finds = ap (λ x. where_held x own) found; full = λ r w. full r (or_false (wanted p r) (flow r w)) }
line_goes wanted c p own (Call to callee args) at full reads flow =
    let s = and_parts (wanted_keeps (own_at c p) to) (operand_keeps (own_at c p) callee && list_all (λ (a : Argument ℕ). operand_keeps (own_at c p) a.value) args) at in
    let t = and_parts (operand_keeps (own_at c p) callee) (list_all (λ (a : Argument ℕ). operand_keeps (own_at c p) a.value) args) s.1 in
    let h = and_parts (operand_keeps (wanted p) callee) (list_all (λ (a : Argument ℕ). operand_keeps (wanted p) a.value) args)
    (sym (args_in (wanted p) (with_operand [] callee) args ∙ ap (λ x. x && list_all (λ (a : Argument ℕ). operand_keeps (wanted p) a.value) args) (operand_in (wanted p) [] callee)) ∙ reads) in
    let found : (operand_held own (layout_at c p) callee && args_held own (layout_at c p) args) ≡ true =
    ap (λ x. x && args_held own (layout_at c p) args) (operand_found wanted c p own callee full t.0 h.0) ∙ args_found wanted c p own args full t.1 h.1 in
    record {
      owners = received (layout_at c p) to (own_kept own);
      finds = ap (λ x. where_held x (received (layout_at c p) to (own_kept own))) found;
      full = receives to s.0 flow;
    }
  where
    receives : (to : Option (Destination ℕ)) → wanted_keeps (own_at c p) to ≡ true
        → ((r : ℕ) → wanted (p + 1) r ≡ true → (wanted p r || writes_to (Call to callee args) r) ≡ true) → Full wanted (p + 1) (received (layout_at c p) to (own_kept own))
    receives None is flow2 = λ r w. full r (or_false (wanted p r) (flow2 r w))
    receives (Some d) is flow2 = after_put wanted c p (p + 1) d.place (own_kept own) is full flow2

all_held : (wanted : Wanted) (p n : ℕ) (own : Owners) (es : List Equality) → Full wanted p own → list_all (is_own n) es ≡ true → list_all (λ (e : Equality). wanted p e.register) es ≡ true
    → all_hold own es ≡ true
all_held wanted p n own [] full at h = refl
all_held wanted p n own (e ∷ es) full at h =
    let s = and_parts (is_own n e) (list_all (is_own n) es) at in
    let t = and_parts (wanted p e.register) (list_all (λ (x : Equality). wanted p x.register) es) h in
    let is = same_is e.place (Slot e.register) (and_parts (same_location e.place (Slot e.register)) (nat_lt e.register n) s.0).0 in
    ap (λ b. b && all_hold own es) (owned own e.place e.register (ap own is ∙ full e.register t.0)) ∙ all_held wanted p n own es full s.1 t.1

jump_goes : (wanted : Wanted) (n : ℕ) (c : Certificate) (p : ℕ) (own : Owners) (j : Jump ℕ) → ((i : ℕ) → list_all (is_own n) (starts_at c i) ≡ true)
    → jump_keeps (own_at c p) j ≡ true → Full wanted p own → list_all (wanted p) (jump_reads j) ≡ true → targets_wanted wanted c p j ≡ true → jump_right c own (layout_at c p) j ≡ true
jump_goes wanted n c p own (Goto k) starts at full reads targets = all_held wanted p n own (starts_at c k) full (starts k) targets
jump_goes wanted n c p own (Branch on met otherwise) starts at full reads targets =
    let t = and_parts (start_wanted wanted c p met) (start_wanted wanted c p otherwise) targets in
    let s = and_parts (operand_keeps (own_at c p) on.left) (operand_keeps (own_at c p) on.right) at in
    let h = and_parts (operand_keeps (wanted p) on.left) (operand_keeps (wanted p) on.right) (sym (two_in (wanted p) on.left on.right) ∙ reads) in
    ap (λ b. (b && operand_held own (layout_at c p) on.right) && (all_hold own (starts_at c met) && all_hold own (starts_at c otherwise))) (operand_found wanted c p own on.left full s.0 h.0)
    ∙ ap (λ b. b && (all_hold own (starts_at c met) && all_hold own (starts_at c otherwise))) (operand_found wanted c p own on.right full s.1 h.1)
    ∙ ap (λ b. b && all_hold own (starts_at c otherwise)) (all_held wanted p n own (starts_at c met) full (starts met) t.0)
    ∙ all_held wanted p n own (starts_at c otherwise) full (starts otherwise) t.1
jump_goes wanted n c p own (Return None) starts at full reads targets = refl
jump_goes wanted n c p own (Return (Some a)) starts at full reads targets = operand_found wanted c p own a.value full at (sym (operand_in (wanted p) [] a.value) ∙ reads)
jump_goes wanted n c p own Halt starts at full reads targets = refl

point_goes : (wanted : Wanted) (c : Certificate) (p q : ℕ) (own : Owners) (j : Jump ℕ) (l : Line ℕ) (lines : List (Line ℕ)) → list_all is_empty c.moves ≡ true
    → (g : Goes wanted c p own l) → lines_right c q g.owners j lines ≡ true
    → option_map_or (λ (o : Owners). lines_right c q o j lines) (after_line (moved (moves_at c p) own) (layout_at c p) l) false ≡ true
point_goes wanted c p q own j l lines still g rest =
    ap (λ ms. option_map_or (λ (o : Owners). lines_right c q o j lines) (after_line (moved ms own) (layout_at c p) l) false) (no_moves c.moves p still)
    ∙ ap (λ (x : Option Owners). option_map_or (λ (o : Owners). lines_right c q o j lines) x false) g.finds
    ∙ rest

lines_go : (wanted : Wanted) (n : ℕ) (c : Certificate) (p : ℕ) (own : Owners) (j : Jump ℕ) (lines : List (Line ℕ)) → ((i : ℕ) → list_all (is_own n) (starts_at c i) ≡ true)
    → list_all is_empty c.moves ≡ true → lines_own c p j lines ≡ true → Full wanted p own → LinesWant wanted c p j lines → lines_right c p own j lines ≡ true
lines_go wanted n c p own j [] starts still at full wants =
    ap (λ ms. jump_right c (moved ms own) (layout_at c p) j) (no_moves c.moves p still) ∙ jump_goes wanted n c p own j starts at full wants.0 wants.1
lines_go wanted n c p own j (Tick turn w ∷ lines) starts still at full wants =
    let g = line_goes wanted c p own (Tick turn w) refl full wants.0 wants.1.0 in
    lines_go wanted n c p own j lines starts still at full wants.1.1
lines_go wanted n c p own j (Set to a ∷ lines) starts still at full wants =
    let s = and_parts (line_keeps (own_at c p) (Set to a)) (lines_own c (p + 1) j lines) at in
    let g = line_goes wanted c p own (Set to a) s.0 full wants.0 wants.1.0 in
    point_goes wanted c p (p + 1) own j (Set to a) lines still g (lines_go wanted n c (p + 1) g.owners j lines starts still s.1 g.full wants.1.1)
lines_go wanted n c p own j (Operate to op a b ∷ lines) starts still at full wants =
    let s = and_parts (line_keeps (own_at c p) (Operate to op a b)) (lines_own c (p + 1) j lines) at in
    let g = line_goes wanted c p own (Operate to op a b) s.0 full wants.0 wants.1.0 in
    point_goes wanted c p (p + 1) own j (Operate to op a b) lines still g (lines_go wanted n c (p + 1) g.owners j lines starts still s.1 g.full wants.1.1)
lines_go wanted n c p own j (Load to op a ∷ lines) starts still at full wants =
    let s = and_parts (line_keeps (own_at c p) (Load to op a)) (lines_own c (p + 1) j lines) at in
    let g = line_goes wanted c p own (Load to op a) s.0 full wants.0 wants.1.0 in
    point_goes wanted c p (p + 1) own j (Load to op a) lines still g (lines_go wanted n c (p + 1) g.owners j lines starts still s.1 g.full wants.1.1)
lines_go wanted n c p own j (Store size a b ∷ lines) starts still at full wants =
    let s = and_parts (line_keeps (own_at c p) (Store size a b)) (lines_own c (p + 1) j lines) at in
    let g = line_goes wanted c p own (Store size a b) s.0 full wants.0 wants.1.0 in
    point_goes wanted c p (p + 1) own j (Store size a b) lines still g (lines_go wanted n c (p + 1) g.owners j lines starts still s.1 g.full wants.1.1)
lines_go wanted n c p own j (Alloc to size ∷ lines) starts still at full wants =
    let s = and_parts (line_keeps (own_at c p) (Alloc to size)) (lines_own c (p + 1) j lines) at in
    let g = line_goes wanted c p own (Alloc to size) s.0 full wants.0 wants.1.0 in
    point_goes wanted c p (p + 1) own j (Alloc to size) lines still g (lines_go wanted n c (p + 1) g.owners j lines starts still s.1 g.full wants.1.1)
lines_go wanted n c p own j (Blit a b count ∷ lines) starts still at full wants =
    let s = and_parts (line_keeps (own_at c p) (Blit a b count)) (lines_own c (p + 1) j lines) at in
    let g = line_goes wanted c p own (Blit a b count) s.0 full wants.0 wants.1.0 in
    point_goes wanted c p (p + 1) own j (Blit a b count) lines still g (lines_go wanted n c (p + 1) g.owners j lines starts still s.1 g.full wants.1.1)
lines_go wanted n c p own j (Call to callee args ∷ lines) starts still at full wants =
    let s = and_parts (line_keeps (own_at c p) (Call to callee args)) (lines_own c (p + 1) j lines) at in
    let g = line_goes wanted c p own (Call to callee args) s.0 full wants.0 wants.1.0 in
    point_goes wanted c p (p + 1) own j (Call to callee args) lines still g (lines_go wanted n c (p + 1) g.owners j lines starts still s.1 g.full wants.1.1)

-- ---- a block begins

known_slot : (n : ℕ) (es : List Equality) (own : Owners) (r : ℕ) → list_all (is_own n) es ≡ true → (names es r ≡ true) ⊎ (own (Slot r) ≡ Some r) → known es own (Slot r) ≡ Some r
known_slot n [] own r at (inl h) = cc
known_slot n [] own r at (inr h) = h
known_slot n (e ∷ es) own r at either =
    let s = and_parts (is_own n e) (list_all (is_own n) es) at in
    let is = same_is e.place (Slot e.register) (and_parts (same_location e.place (Slot e.register)) (nat_lt e.register n) s.0).0 in
    known_slot n es (own_also e own) r s.1 (by is (nat_eq r e.register) refl either)
  where
    by : e.place ≡ Slot e.register → (b : Bool) → nat_eq r e.register ≡ b → (names (e ∷ es) r ≡ true) ⊎ (own (Slot r) ≡ Some r) → (names es r ≡ true) ⊎ (own_also e own (Slot r) ≡ Some r)
    by is true f h =
        let same : e.register ≡ r = grind (arith, nat_tests) in
        inr (ap (λ (q : Location). if same_location (Slot r) q then Some e.register else own (Slot r)) is ∙ ap (λ b. if b then Some e.register else own (Slot r)) f ∙ ap (λ k. Some k) same)
    by is false f (inl h) =
        let other : nat_eq e.register r ≡ false = grind (arith, nat_tests) in
        inl (ap (λ b. b || names es r) (sym other) ∙ h)
    by is false f (inr h) =
        inr (ap (λ (q : Location). if same_location (Slot r) q then Some e.register else own (Slot r)) is ∙ ap (λ b. if b then Some e.register else own (Slot r)) f ∙ h)

blocks_go : (wanted : Wanted) (n : ℕ) (c : Certificate) (p k : ℕ) (blocks : List (Block ℕ)) → ((i : ℕ) → list_all (is_own n) (starts_at c i) ≡ true)
    → list_all is_empty c.moves ≡ true → blocks_own c p blocks ≡ true → BlocksWant wanted c p k blocks → blocks_right c p k blocks ≡ true
blocks_go wanted n c p k [] starts still at wants = refl
blocks_go wanted n c p k (b ∷ blocks) starts still at wants =
    let s = and_parts (lines_own c p b.jump b.lines) (blocks_own c (jump_point p b.lines + 1) blocks) at in
    ap (λ x. x && blocks_right c (jump_point p b.lines + 1) (k + 1) blocks)
    (lines_go wanted n c p (known (starts_at c k) nobody) b.jump b.lines starts still s.0
    (λ r w. known_slot n (starts_at c k) nobody r (starts k) (inl (wants.0 r w))) wants.1.0)
    ∙ blocks_go wanted n c (jump_point p b.lines + 1) (k + 1) blocks starts still s.1 wants.1.1

-- ---- on entry

abbrev slots_of : List (Destination ℕ) → List Location
slots_of ds = map (λ (d : Destination ℕ). Slot d.place) ds

params_placed_so : (ds : List (Destination ℕ)) → params_placed ds (slots_of ds) ≡ true
params_placed_so [] = refl
params_placed_so (d ∷ ds) = params_placed_so ds

params_own : (ds : List (Destination ℕ)) (own : Owners) (r : ℕ) → (is_param ds r ≡ true) ⊎ (own (Slot r) ≡ Some r) → own_params ds (slots_of ds) own (Slot r) ≡ Some r
params_own [] own r (inl h) = cc
params_own [] own r (inr h) = h
params_own (d ∷ ds) own r (inl h) =
    params_own ds (own_put (Slot d.place) d.place own) r
    (elim (or_cases (nat_eq r d.place) (is_param ds r) h) [
      | inl e ↦ inr (put_slot own (Slot d.place) d.place r refl (inl (let f : nat_eq d.place r ≡ true = grind (arith, nat_tests) in f)))
      | inr e ↦ inl e
    ])
params_own (d ∷ ds) own r (inr h) = params_own ds (own_put (Slot d.place) d.place own) r (inr (put_slot own (Slot d.place) d.place r refl (inr h)))

entry_one : (n : ℕ) (ds : List (Destination ℕ)) (e : Equality) → is_own n e ≡ true → (owns (own_params ds (slots_of ds) nobody) e.place e.register || not (is_param ds e.register)) ≡ true
entry_one n ds e at = by (is_param ds e.register) refl
  where
    is : e.place ≡ Slot e.register
    is = same_is e.place (Slot e.register) (and_parts (same_location e.place (Slot e.register)) (nat_lt e.register n) at).0

    or_true : (b : Bool) → (b || true) ≡ true
    or_true true = refl
    or_true false = refl

    by : (b : Bool) → is_param ds e.register ≡ b → (owns (own_params ds (slots_of ds) nobody) e.place e.register || not (is_param ds e.register)) ≡ true
    by true f =
        ap (λ b. b || not (is_param ds e.register))
        (owned (own_params ds (slots_of ds) nobody) e.place e.register (ap (own_params ds (slots_of ds) nobody) is ∙ params_own ds nobody e.register (inl f)))
    by false f = ap (λ b. owns (own_params ds (slots_of ds) nobody) e.place e.register || not b) f ∙ or_true (owns (own_params ds (slots_of ds) nobody) e.place e.register)

entry_so : (n : ℕ) (ds : List (Destination ℕ)) (es : List Equality) → list_all (is_own n) es ≡ true
    → list_all (λ (e : Equality). owns (own_params ds (slots_of ds) nobody) e.place e.register || not (is_param ds e.register)) es ≡ true
entry_so n ds [] at = refl
entry_so n ds (e ∷ es) at =
    let s = and_parts (is_own n e) (list_all (is_own n) es) at in
    ap (λ b. b && list_all (λ (x : Equality). owns (own_params ds (slots_of ds) nobody) x.place x.register || not (is_param ds x.register)) es) (entry_one n ds e s.0) ∙ entry_so n ds es s.1

-- ---- all of it

slotted_sound : (wanted : Wanted) (v : VFunc) (c : Certificate) → IsSlotted wanted v c → is_sound v.code c ≡ true
slotted_sound wanted v c is =
    ap (λ b. b && (entry_right v.code c && blocks_right c 0 0 v.code.blocks)) (ap (params_placed v.code.params) is.params ∙ params_placed_so v.code.params)
    ∙ ap (λ b. b && blocks_right c 0 0 v.code.blocks)
    (ap (λ (qs : List Location). list_all (λ (e : Equality). owns (own_params v.code.params qs nobody) e.place e.register || not (is_param v.code.params e.register)) (starts_at c 0)) is.params
    ∙ entry_so v.registers v.code.params (starts_at c 0) (starts_own v.registers c 0 is.everywhere is.starts))
    ∙ blocks_go wanted v.registers c 0 0 v.code.blocks (λ k. starts_own v.registers c k is.everywhere is.starts) is.still is.places is.wants

slotted_whole : (wanted : Wanted) (v : VFunc) (c : Certificate) → IsSlotted wanted v c → is_whole v c ≡ true
slotted_whole wanted v c is =
    ap (λ b. b && (list_all (exists_in v.registers) c.everywhere && (equalities_exist v.registers c.starts && (equalities_exist v.registers c.places && list_all names_once c.places)))) is.lengths
    ∙ ap (λ (es : List Equality). list_all (exists_in v.registers) es && (equalities_exist v.registers c.starts && (equalities_exist v.registers c.places && list_all names_once c.places))) is.everywhere
    ∙ ap (λ b. b && (equalities_exist v.registers c.places && list_all names_once c.places)) (own_all_exist v.registers c.starts is.starts)
    ∙ ap (λ b. b && list_all names_once c.places) (own_all_exist v.registers c.places is.owned)
    ∙ is.once

pub slotted_accepted : (wanted : Wanted) (v : VFunc) (c : Certificate) → IsSlotted wanted v c → is_accepted v c ≡ true
slotted_accepted wanted v c is =
    ap (λ b. b && (are_apart c.everywhere && (is_sound v.code c && is_placed v.registers (placed_by v.code c)))) (slotted_whole wanted v c is)
    ∙ ap (λ (es : List Equality). are_apart es && (is_sound v.code c && is_placed v.registers (placed_by v.code c))) is.everywhere
    ∙ ap (λ b. b && is_placed v.registers (placed_by v.code c)) (slotted_sound wanted v c is)
    ∙ slotted_placed wanted v c is
