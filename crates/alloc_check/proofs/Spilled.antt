-- The certificate that has each register in its slot, and knows the live ones of each block's start.
use Rattle.std.proofs.Common.{◌≡◌, ℕ, zero, suc, ◌+◌, ◌<◌, ◌≤◌, Bool, true, false, not, ◌&&◌, ◌||◌, nat_eq, nat_lt, if◌then◌else◌, List, [], ◌∷◌, ◌++◌, map, length, slice_get, Option, Some, None, refl, sym, ◌∙◌, ap, arith, inl, inr, ◌⊎◌}
use Rattle.std.specs.List.{list_all, list_any}
use Rattle.std.specs.Option.{option_map, option_map_or}
use Rattle.std.proofs.lemmas.Bool.Decides.{nat_tests}
use Rattle.std.proofs.lemmas.Option.{slice_get-map}
use Rattle.std.proofs.lemmas.Bool.{and_parts, or_cases, or_right, or_left, eq-eqb}
use Rattle.std.proofs.lemmas.List.Folds.{list_any-append}
use Rattle.bitset.specs.Bits.{Bits}
use Rattle.vcode.specs.declared.place.Location.{Location}
use Rattle.vcode.specs.declared.place.Location.TheVariants.{Slot}
use Rattle.vcode.specs.declared.place.Destination.{Destination}
use Rattle.vcode.specs.declared.place.Argument.{Argument}
use Rattle.vcode.specs.declared.line.Line.{Line}
use Rattle.vcode.specs.declared.line.Line.TheVariants.{Tick, Set, Operate, Load, Store, Alloc, Blit, Call}
use Rattle.vcode.specs.declared.line.Jump.{Jump}
use Rattle.vcode.specs.declared.line.Jump.TheVariants.{Goto, Branch, Return, Halt}
use Rattle.vcode.specs.declared.code.Block.{Block}
use Rattle.vcode.specs.declared.code.Code.{Code}
use Rattle.vcode.specs.declared.function.VFunc.{VFunc}
use Rattle.vcode.specs.Prelude.{operand_keeps, line_keeps, jump_keeps, block_keeps, keeps_places, is_below, same_location}
use Rattle.vcode.proofs.Lists.{one_more}
use Rattle.certificates.specs.declared.certificate.Equality.{Equality}
use Rattle.certificates.specs.Listed.{place_in, has, with_place, with_places, with_written, point_places, live_places, listed_params, listed_starts, no_moves, slots, slotted}
use Rattle.cfg_live.specs.declared.uses.Uses.{Uses}
use Rattle.cfg_live.specs.declared.graph.Graph.{Graph}
use Rattle.cfg_live.specs.Registers.{with_operand, line_reads, line_writes, jump_reads}
use Rattle.cfg_live.specs.Rows.{line_uses, jump_uses, with_line, with_lines, with_block, with_blocks, uses, with_start, jump_next, after_point, next_line, next_lines, next_block, next_blocks, graph_of, starts_after, starts, writes, leads, holds, AreLive}
use Rattle.cfg_live.proofs.Counting.{block_count, uses_count}
use Rattle.alloc_check.specs.Prelude.{place_by, starts_at, places_at, next_point, jump_point, end_point, names_once, has_lengths, is_empty, is_own, own_at, lines_own, blocks_own, start_wanted, targets_wanted, writes_to, LinesWant, names, BlocksWant, IsSlotted}
use Rattle.alloc_check.proofs.Certifies.{from_true}
use Rattle.alloc_check.proofs.Regular.{map_length}
use Rattle.alloc_check.proofs.Agreeing.{same_is}
use Rattle.alloc_check.proofs.Slots.{operand_in, two_in, args_in}
use Rattle.il_ast.proofs.Truth.{equals_itself}
use Rattle.il_ast.proofs.Listed.{get_before, all_append}

-- ---- tests

abbrev pub is_in : List ℕ → ℕ → Bool
is_in rs r = list_any (λ k. nat_eq k r) rs

pub every_in : (test : ℕ → Bool) (rs : List ℕ) → ((r : ℕ) → is_in rs r ≡ true → test r ≡ true) → list_all test rs ≡ true
every_in test [] h = refl
every_in test (k ∷ rs) h =
    ap (λ b. b && list_all test rs) (h k (ap (λ b. b || is_in rs k) (equals_itself k)))
    ∙ every_in test rs (λ r e. h r (or_right (nat_eq k r) (is_in rs r) e))

pub one_in : (test : ℕ → Bool) (rs : List ℕ) (r : ℕ) → list_all test rs ≡ true → is_in rs r ≡ true → test r ≡ true
one_in test [] r all h = cc
one_in test (k ∷ rs) r all h =
    let s = and_parts (test k) (list_all test rs) all in
    elim (or_cases (nat_eq k r) (is_in rs r) h) [
      | inl e ↦ (let same : k ≡ r = grind (arith, nat_tests) in ap test (sym same) ∙ s.0)
      | inr e ↦ one_in test rs r s.1 e
    ]

-- ---- lists, point by point

pub get_last : {X : Type 0} (xs : List X) (x : X) → slice_get (xs ++ x ∷ []) (length xs) ≡ Some x
get_last [] x = refl
get_last (y ∷ xs) x = get_last xs x

abbrev pub Begins : {X : Type 0} → List X → List X → Type 0
Begins {X} xs all = (p : ℕ) (x : X) → slice_get xs p ≡ Some x → slice_get all p ≡ Some x

-- ---- slots

slots_count : (n : ℕ) → length (slots n) ≡ n
slots_count zero = refl
slots_count (suc n) = one_more (slots n) (Slot n) ∙ (let e = slots_count n in let f : length (slots n) + 1 ≡ suc n = omega arith in f)
  where
    one_more : (xs : List Location) (x : Location) → length (xs ++ x ∷ []) ≡ length xs + 1
    one_more [] x = refl
    one_more (y ∷ xs) x = ap suc (one_more xs x) ∙ (let e : suc (length xs + 1) ≡ suc (length xs) + 1 = omega arith in e)

pub slot_at : (n r : ℕ) → r < n → slice_get (slots n) r ≡ Some (Slot r)
slot_at zero r low = absurd (omega arith)
slot_at (suc n) r low = by (nat_eq r n) refl (slot_at n r)
  where
    by : (b : Bool) → nat_eq r n ≡ b → (r < n → slice_get (slots n) r ≡ Some (Slot r)) → slice_get (slots (suc n)) r ≡ Some (Slot r)
    by true e before =
        let same : r ≡ n = grind (arith, nat_tests) in
        ap (slice_get (slots (suc n))) (same ∙ sym (slots_count n)) ∙ get_last (slots n) (Slot n) ∙ ap (λ k. Some (Slot k)) (sym same)
    by false e before =
        let less : r < n = grind (arith, nat_tests) in
        get_before (slots n) (Slot n ∷ []) r (Slot r) (before less)

abbrev own : ℕ → Equality
own r = record { register = r; place = Slot r }

place_slot : (n r : ℕ) → r < n → place_in (slots n) r ≡ own r ∷ []
place_slot n r low = ap (λ (o : Option Location). option_map_or (λ (q : Location). record { register = r; place = q } ∷ []) o []) (slot_at n r low)

own_own : (n r : ℕ) → r < n → is_own n (own r) ≡ true
own_own n r low = ap (λ b. b && nat_lt r n) (equals_itself r) ∙ (let e : nat_lt r n ≡ true = grind (arith, nat_tests) in e)

pub params_listed : (n : ℕ) (ds : List (Destination ℕ)) → list_all (λ (d : Destination ℕ). is_below n d.place) ds ≡ true → listed_params (slots n) ds ≡ map (λ (d : Destination ℕ). Slot d.place) ds
params_listed n [] h = refl
params_listed n (d ∷ ds) h =
    let s = and_parts (is_below n d.place) (list_all (λ (x : Destination ℕ). is_below n x.place) ds) h in
    let low : d.place < n = grind (arith, nat_tests) in
    ap (λ (o : Option Location). option_map_or (λ (q : Location). q ∷ []) o [] ++ listed_params (slots n) ds) (slot_at n d.place low)
    ∙ ap (λ qs. Slot d.place ∷ qs) (params_listed n ds s.1)

pub still_listed : (us : List Uses) → list_all is_empty (map no_moves us) ≡ true
still_listed [] = refl
still_listed (u ∷ us) = still_listed us

-- ---- the places of a point

record Owned (n : ℕ) (es : List Equality) : Type 0 where
  all : list_all (is_own n) es ≡ true

place_of_own : (n : ℕ) (es : List Equality) (r : ℕ) → list_all (is_own n) es ≡ true → has es r ≡ true → place_by es r ≡ Slot r
place_of_own n [] r all h = cc
place_of_own n (e ∷ es) r all h =
    let s = and_parts (is_own n e) (list_all (is_own n) es) all in
    by (nat_eq e.register r) refl (and_parts (same_location e.place (Slot e.register)) (nat_lt e.register n) s.0).0 h (place_of_own n es r s.1)
  where
    by : (b : Bool) → nat_eq e.register r ≡ b → same_location e.place (Slot e.register) ≡ true → has (e ∷ es) r ≡ true → (has es r ≡ true → place_by es r ≡ Slot r) → place_by (e ∷ es) r ≡ Slot r
    by true f is g rest =
        let same : e.register ≡ r = grind (arith, nat_tests) in
        ap (λ b. if b then e.place else place_by es r) f ∙ same_is e.place (Slot e.register) is ∙ ap (λ k. Slot k) same
    by false f is g rest =
        ap (λ b. if b then e.place else place_by es r) f ∙ rest (ap (λ b. b || has es r) (sym f) ∙ g)

with_own : (n : ℕ) (es : List Equality) (r : ℕ) → r < n → list_all (is_own n) es ≡ true
    → (list_all (is_own n) (with_place (slots n) es r) ≡ true) × ((has (with_place (slots n) es r) r ≡ true) × ((k : ℕ) → has es k ≡ true → has (with_place (slots n) es r) k ≡ true))
with_own n es r low all = by (has es r) refl
  where
    by : (b : Bool) → has es r ≡ b
        → (list_all (is_own n) (with_place (slots n) es r) ≡ true) × ((has (with_place (slots n) es r) r ≡ true) × ((k : ℕ) → has es k ≡ true → has (with_place (slots n) es r) k ≡ true))
    by true f =
        let is : with_place (slots n) es r ≡ es = ap (λ b. if b then es else es ++ place_in (slots n) r) f in (
          ap (list_all (is_own n)) is ∙ all,
          (ap (λ xs. has xs r) is ∙ f, λ k h. ap (λ xs. has xs k) is ∙ h),
        )
    by false f =
        let is : with_place (slots n) es r ≡ es ++ own r ∷ [] = ap (λ b. if b then es else es ++ place_in (slots n) r) f ∙ ap (λ xs. es ++ xs) (place_slot n r low) in (
          ap (list_all (is_own n)) is ∙ all_append (is_own n) es (own r ∷ []) all (ap (λ b. b && true) (own_own n r low)),
          (
            ap (λ xs. has xs r) is ∙ list_any-append (λ (e : Equality). nat_eq e.register r) es (own r ∷ []) ∙ or_right (has es r) (nat_eq r r || false) (ap (λ b. b || false) (equals_itself r)),
            λ k h. ap (λ xs. has xs k) is ∙ list_any-append (λ (e : Equality). nat_eq e.register k) es (own r ∷ []) ∙ ap (λ b. b || (nat_eq r k || false)) h,
          ),
        )

withs_own : (n : ℕ) (es : List Equality) (rs : List ℕ) → list_all (is_below n) rs ≡ true → list_all (is_own n) es ≡ true
    → (list_all (is_own n) (with_places (slots n) es rs) ≡ true)
    × (((r : ℕ) → is_in rs r ≡ true → has (with_places (slots n) es rs) r ≡ true) × ((k : ℕ) → has es k ≡ true → has (with_places (slots n) es rs) k ≡ true))
withs_own n es [] below all = (all, (λ r h. cc, λ k h. h))
withs_own n es (x ∷ rs) below all =
    let s = and_parts (is_below n x) (list_all (is_below n) rs) below in
    let low : x < n = grind (arith, nat_tests) in
    let one = with_own n es x low all in
    let rest = withs_own n (with_place (slots n) es x) rs s.1 one.0 in (
      rest.0,
      (
        λ r h. elim (or_cases (nat_eq x r) (is_in rs r) h) [
          | inl e ↦ rest.1.1 r (let same : x ≡ r = grind (arith, nat_tests) in ap (has (with_place (slots n) es x)) (sym same) ∙ one.1.0)
          | inr e ↦ rest.1.0 r e
        ],
        λ k h. rest.1.1 k (one.1.1 k h),
      ),
    )

abbrev pub below_wanted : ℕ → Option ℕ → Bool
below_wanted n w = option_map_or (λ r. is_below n r) w true

written_own : (n : ℕ) (es : List Equality) (w : Option ℕ) → below_wanted n w ≡ true → list_all (is_own n) es ≡ true
    → (list_all (is_own n) (with_written (slots n) es w) ≡ true)
    × (((r : ℕ) → w ≡ Some r → has (with_written (slots n) es w) r ≡ true) × ((k : ℕ) → has es k ≡ true → has (with_written (slots n) es w) k ≡ true))
written_own n es None below all = (all, (λ r h. cc, λ k h. h))
written_own n es (Some x) below all =
    let low : x < n = grind (arith, nat_tests) in
    let one = with_own n es x low all in
    (one.0, (λ r h. (let same : x ≡ r = cc in ap (has (with_place (slots n) es x)) (sym same) ∙ one.1.0), one.1.1))

-- ---- each register once

once_more : (es : List Equality) (e : Equality) → names_once es ≡ true → has es e.register ≡ false → names_once (es ++ e ∷ []) ≡ true
once_more [] e h f = refl
once_more (x ∷ es) e h f =
    let s = and_parts (not (has es x.register)) (names_once es) h in
    let t = neither (nat_eq x.register e.register) (has es e.register) f in
    let other : nat_eq e.register x.register ≡ false = grind (arith, nat_tests) in
    let before : has es x.register ≡ false = is_not (has es x.register) s.0 in
    let after : has (es ++ e ∷ []) x.register ≡ false =
    list_any-append (λ (k : Equality). nat_eq k.register x.register) es (e ∷ []) ∙ ap (λ b. b || (nat_eq e.register x.register || false)) before ∙ ap (λ b. b || false) other in
    ap (λ b. not b && names_once (es ++ e ∷ [])) after ∙ once_more es e s.1 t.1
  where
    neither : (a b : Bool) → (a || b) ≡ false → (a ≡ false) × (b ≡ false)
    neither true b g = cc
    neither false b g = (refl, g)

    is_not : (b : Bool) → not b ≡ true → b ≡ false
    is_not true g = cc
    is_not false g = refl

with_once : (n : ℕ) (es : List Equality) (r : ℕ) → r < n → names_once es ≡ true → names_once (with_place (slots n) es r) ≡ true
with_once n es r low once = by (has es r) refl
  where
    by : (b : Bool) → has es r ≡ b → names_once (with_place (slots n) es r) ≡ true
    by true f = ap (λ b. names_once (if b then es else es ++ place_in (slots n) r)) f ∙ once
    by false f =
        ap (λ b. names_once (if b then es else es ++ place_in (slots n) r)) f ∙ ap (λ xs. names_once (es ++ xs)) (place_slot n r low) ∙ once_more es (own r) once f

withs_once : (n : ℕ) (es : List Equality) (rs : List ℕ) → list_all (is_below n) rs ≡ true → names_once es ≡ true → names_once (with_places (slots n) es rs) ≡ true
withs_once n es [] below once = once
withs_once n es (x ∷ rs) below once =
    let s = and_parts (is_below n x) (list_all (is_below n) rs) below in
    let low : x < n = grind (arith, nat_tests) in
    withs_once n (with_place (slots n) es x) rs s.1 (with_once n es x low once)

written_once : (n : ℕ) (es : List Equality) (w : Option ℕ) → below_wanted n w ≡ true → names_once es ≡ true → names_once (with_written (slots n) es w) ≡ true
written_once n es None below once = once
written_once n es (Some x) below once =
    let low : x < n = grind (arith, nat_tests) in
    with_once n es x low once

abbrev use_below : ℕ → Uses → Bool
use_below n u = list_all (is_below n) u.reads && below_wanted n u.writes

-- at each point the registers that it names are in their slots, and each is named once
points_own : (n : ℕ) (us : List Uses) → list_all (use_below n) us ≡ true
    → (list_all (λ (es : List Equality). list_all (is_own n) es) (map (point_places (slots n)) us) ≡ true) × (list_all names_once (map (point_places (slots n)) us) ≡ true)
points_own n [] h = (refl, refl)
points_own n (u ∷ us) h =
    let s = and_parts (use_below n u) (list_all (use_below n) us) h in
    let t = and_parts (list_all (is_below n) u.reads) (below_wanted n u.writes) s.0 in
    let reads = withs_own n [] u.reads t.0 refl in
    let all = written_own n (with_places (slots n) [] u.reads) u.writes t.1 reads.0 in
    let once = written_once n (with_places (slots n) [] u.reads) u.writes t.1 (withs_once n [] u.reads t.0 refl) in
    let rest = points_own n us s.1 in (
      ap (λ b. b && list_all (λ (es : List Equality). list_all (is_own n) es) (map (point_places (slots n)) us)) all.0 ∙ rest.0,
      ap (λ b. b && list_all names_once (map (point_places (slots n)) us)) once ∙ rest.1,
    )

-- each register that the point names is in its slot
pub point_own : (n : ℕ) (u : Uses) → list_all (is_below n) u.reads ≡ true → below_wanted n u.writes ≡ true
    → ((r : ℕ) → is_in u.reads r ≡ true → place_by (point_places (slots n) u) r ≡ Slot r) × ((r : ℕ) → u.writes ≡ Some r → place_by (point_places (slots n) u) r ≡ Slot r)
point_own n u below under =
    let reads = withs_own n [] u.reads below refl in
    let all = written_own n (with_places (slots n) [] u.reads) u.writes under reads.0 in (
      λ r h. place_of_own n (point_places (slots n) u) r all.0 (all.1.1 r (reads.1.0 r h)),
      λ r h. place_of_own n (point_places (slots n) u) r all.0 (all.1.0 r h),
    )

-- ---- what a line names

pub names_below : (test : ℕ → Bool) (l : Line ℕ) → line_keeps test l ≡ true → (list_all test (line_reads l) ≡ true) × (option_map_or test (line_writes l) true ≡ true)
names_below test (Tick turn w) h = (refl, refl)
names_below test (Set to a) h = let s = and_parts (test to) (operand_keeps test a) h in (operand_in test [] a ∙ s.1, s.0)
names_below test (Operate to op a b) h = let s = and_parts (test to) (operand_keeps test a && operand_keeps test b) h in (two_in test a b ∙ s.1, s.0)
names_below test (Load to op at) h = let s = and_parts (test to) (operand_keeps test at.base) h in (operand_in test [] at.base ∙ s.1, s.0)
names_below test (Store size a at) h = (two_in test a at.base ∙ h, refl)
names_below test (Alloc None size) h = (refl, refl)
names_below test (Alloc (Some r) size) h = (refl, h)
names_below test (Blit a b count) h = (two_in test a b ∙ h, refl)
names_below test (Call None callee args) h =
    (args_in test (with_operand [] callee) args ∙ ap (λ b. b && list_all (λ (a : Argument ℕ). operand_keeps test a.value) args) (operand_in test [] callee) ∙ h, refl)
names_below test (Call (Some d) callee args) h =
    let s = and_parts (test d.place) (operand_keeps test callee && list_all (λ (a : Argument ℕ). operand_keeps test a.value) args) h in
    (args_in test (with_operand [] callee) args ∙ ap (λ b. b && list_all (λ (a : Argument ℕ). operand_keeps test a.value) args) (operand_in test [] callee) ∙ s.1, s.0)

pub names_all : (test : ℕ → Bool) (l : Line ℕ) → list_all test (line_reads l) ≡ true → option_map_or test (line_writes l) true ≡ true → line_keeps test l ≡ true
names_all test (Tick turn w) h e = refl
names_all test (Set to a) h e = ap (λ b. b && operand_keeps test a) e ∙ sym (operand_in test [] a) ∙ h
names_all test (Operate to op a b) h e = ap (λ x. x && (operand_keeps test a && operand_keeps test b)) e ∙ sym (two_in test a b) ∙ h
names_all test (Load to op at) h e = ap (λ b. b && operand_keeps test at.base) e ∙ sym (operand_in test [] at.base) ∙ h
names_all test (Store size a at) h e = sym (two_in test a at.base) ∙ h
names_all test (Alloc None size) h e = refl
names_all test (Alloc (Some r) size) h e = e
names_all test (Blit a b count) h e = sym (two_in test a b) ∙ h
names_all test (Call None callee args) h e =
    sym (args_in test (with_operand [] callee) args ∙ ap (λ b. b && list_all (λ (a : Argument ℕ). operand_keeps test a.value) args) (operand_in test [] callee)) ∙ h
names_all test (Call (Some d) callee args) h e =
    ap (λ b. b && (operand_keeps test callee && list_all (λ (a : Argument ℕ). operand_keeps test a.value) args)) e
    ∙ sym (args_in test (with_operand [] callee) args ∙ ap (λ b. b && list_all (λ (a : Argument ℕ). operand_keeps test a.value) args) (operand_in test [] callee)) ∙ h

pub jump_below : (test : ℕ → Bool) (j : Jump ℕ) → jump_keeps test j ≡ list_all test (jump_reads j)
jump_below test (Goto k) = refl
jump_below test (Branch on met otherwise) = sym (two_in test on.left on.right)
jump_below test (Return None) = refl
jump_below test (Return (Some a)) = sym (operand_in test [] a.value)
jump_below test Halt = refl

-- ---- ticks and points

pub record IsTick (l : Line ℕ) : Type 0 where
  pub next : (p : ℕ) → next_point p l ≡ p
  pub uses : (us : List Uses) → with_line us l ≡ us
  pub nexts : (ns : List (List ℕ)) → next_line ns l ≡ ns
  pub reads : line_reads l ≡ []
  pub keeps : (test : ℕ → Bool) → line_keeps test l ≡ true

pub record IsPoint (l : Line ℕ) : Type 0 where
  pub next : (p : ℕ) → next_point p l ≡ p + 1
  pub uses : (us : List Uses) → with_line us l ≡ us ++ line_uses l ∷ []
  pub nexts : (ns : List (List ℕ)) → next_line ns l ≡ ns ++ after_point (length ns) ∷ []

pub kind : (l : Line ℕ) → IsTick l ⊎ IsPoint l
kind (Tick turn w) = inl (record { next = λ p. refl; uses = λ us. refl; nexts = λ ns. refl; reads = refl; keeps = λ test. refl })
kind (Set to a) = inr (record { next = λ p. refl; uses = λ us. refl; nexts = λ ns. refl })
kind (Operate to op a b) = inr (record { next = λ p. refl; uses = λ us. refl; nexts = λ ns. refl })
kind (Load to op a) = inr (record { next = λ p. refl; uses = λ us. refl; nexts = λ ns. refl })
kind (Store size a b) = inr (record { next = λ p. refl; uses = λ us. refl; nexts = λ ns. refl })
kind (Alloc to size) = inr (record { next = λ p. refl; uses = λ us. refl; nexts = λ ns. refl })
kind (Blit a b count) = inr (record { next = λ p. refl; uses = λ us. refl; nexts = λ ns. refl })
kind (Call to callee args) = inr (record { next = λ p. refl; uses = λ us. refl; nexts = λ ns. refl })

pub uses_begin : (us : List Uses) (lines : List (Line ℕ)) → Begins us (with_lines us lines)
uses_begin us [] p x h = h
uses_begin us (l ∷ lines) p x h = elim (kind l) [
  | inl t ↦ uses_begin (with_line us l) lines p x (ap (λ vs. slice_get vs p) (t.uses us) ∙ h)
  | inr t ↦ uses_begin (with_line us l) lines p x (ap (λ vs. slice_get vs p) (t.uses us) ∙ get_before us (line_uses l ∷ []) p x h)
]

pub nexts_begin : (ns : List (List ℕ)) (lines : List (Line ℕ)) → Begins ns (next_lines ns lines)
nexts_begin ns [] p x h = h
nexts_begin ns (l ∷ lines) p x h = elim (kind l) [
  | inl t ↦ nexts_begin (next_line ns l) lines p x (ap (λ vs. slice_get vs p) (t.nexts ns) ∙ h)
  | inr t ↦ nexts_begin (next_line ns l) lines p x (ap (λ vs. slice_get vs p) (t.nexts ns) ∙ get_before ns (after_point (length ns) ∷ []) p x h)
]

pub blocks_begin : (us : List Uses) (blocks : List (Block ℕ)) → Begins us (with_blocks us blocks)
blocks_begin us [] p x h = h
blocks_begin us (b ∷ blocks) p x h = blocks_begin (with_block us b) blocks p x (get_before (with_lines us b.lines) (jump_uses b.jump ∷ []) p x (uses_begin us b.lines p x h))

pub next_blocks_begin : (firsts : List ℕ) (ns : List (List ℕ)) (blocks : List (Block ℕ)) → Begins ns (next_blocks firsts ns blocks)
next_blocks_begin firsts ns [] p x h = h
next_blocks_begin firsts ns (b ∷ blocks) p x h =
    next_blocks_begin firsts (next_block firsts ns b) blocks p x (get_before (next_lines ns b.lines) (jump_next firsts b.jump ∷ []) p x (nexts_begin ns b.lines p x h))

-- ---- what points name

one_below : (n : ℕ) (us : List Uses) (u : Uses) → list_all (use_below n) us ≡ true → list_all (is_below n) u.reads ≡ true → below_wanted n u.writes ≡ true → list_all (use_below n) (us ++ u ∷ []) ≡ true
one_below n us u h reads writes =
    all_append (use_below n) us (u ∷ []) h (ap (λ b. (b && below_wanted n u.writes) && true) reads ∙ ap (λ b. b && true) writes)

lines_below : (n : ℕ) (us : List Uses) (lines : List (Line ℕ)) → list_all (use_below n) us ≡ true → list_all (line_keeps (is_below n)) lines ≡ true → list_all (use_below n) (with_lines us lines) ≡ true
lines_below n us [] h below = h
lines_below n us (l ∷ lines) h below =
    let s = and_parts (line_keeps (is_below n) l) (list_all (line_keeps (is_below n)) lines) below in
    let low = names_below (is_below n) l s.0 in
    lines_below n (with_line us l) lines
    (elim (kind l) [
      | inl t ↦ ap (list_all (use_below n)) (t.uses us) ∙ h
      | inr t ↦ ap (list_all (use_below n)) (t.uses us) ∙ one_below n us (line_uses l) h low.0 low.1
    ])
    s.1

blocks_below : (n : ℕ) (us : List Uses) (blocks : List (Block ℕ)) → list_all (use_below n) us ≡ true → list_all (block_keeps (is_below n)) blocks ≡ true → list_all (use_below n) (with_blocks us blocks) ≡ true
blocks_below n us [] h below = h
blocks_below n us (b ∷ blocks) h below =
    let s = and_parts (block_keeps (is_below n) b) (list_all (block_keeps (is_below n)) blocks) below in
    let t = and_parts (list_all (line_keeps (is_below n)) b.lines) (jump_keeps (is_below n) b.jump) s.0 in
    blocks_below n (with_block us b) blocks
    (one_below n (with_lines us b.lines) (jump_uses b.jump) (lines_below n us b.lines h t.0) (sym (jump_below (is_below n) b.jump) ∙ t.1) refl) s.1

-- ---- the live registers where a block begins

abbrev pub firsts_from : ℕ → List (Block ℕ) → List ℕ
firsts_from p [] = []
firsts_from p (b ∷ blocks) = p ∷ firsts_from (jump_point p b.lines + 1) blocks

pub starts_same : (us : List Uses) (blocks : List (Block ℕ)) → starts_after us blocks ≡ firsts_from (length us) blocks
starts_same us [] = refl
starts_same us (b ∷ blocks) = ap (λ ps. length us ∷ ps) (starts_same (with_block us b) blocks ∙ ap (λ k. firsts_from k blocks) (block_count us b))

pub listed_get : (n : ℕ) (rows : List Bits) (p : ℕ) (blocks : List (Block ℕ)) (k : ℕ)
    → slice_get (listed_starts (slots n) rows n p blocks) k ≡ option_map (λ q. live_places (slots n) rows q n) (slice_get (firsts_from p blocks) k)
listed_get n rows p [] k = refl
listed_get n rows p (b ∷ blocks) zero = refl
listed_get n rows p (b ∷ blocks) (suc k) = listed_get n rows (jump_point p b.lines + 1) blocks k

if_live : (n : ℕ) (rows : List Bits) (q m : ℕ) (pass : Equality → Bool) → m < n → (holds rows q m ≡ true → pass (own m) ≡ true)
    → list_all pass (if holds rows q m then place_in (slots n) m else []) ≡ true
if_live n rows q m pass low h = by (holds rows q m) refl
  where
    by : (b : Bool) → holds rows q m ≡ b → list_all pass (if holds rows q m then place_in (slots n) m else []) ≡ true
    by true e = ap (λ b. list_all pass (if b then place_in (slots n) m else [])) e ∙ ap (list_all pass) (place_slot n m low) ∙ ap (λ b. b && true) (h e)
    by false e = ap (λ b. list_all pass (if b then place_in (slots n) m else [])) e

pub live_every : (n : ℕ) (rows : List Bits) (q m : ℕ) (pass : Equality → Bool) → m ≤ n → ((r : ℕ) → r < n → holds rows q r ≡ true → pass (own r) ≡ true)
    → list_all pass (live_places (slots n) rows q m) ≡ true
live_every n rows q zero pass low h = refl
live_every n rows q (suc m) pass low h =
    all_append pass (live_places (slots n) rows q m) (if holds rows q m then place_in (slots n) m else []) (live_every n rows q m pass (omega arith) h)
    (if_live n rows q m pass (omega arith) (h m (omega arith)))

pub live_named : (n : ℕ) (rows : List Bits) (q m r : ℕ) → m ≤ n → r < m → holds rows q r ≡ true → has (live_places (slots n) rows q m) r ≡ true
live_named n rows q zero r low in_m h = absurd (omega arith)
live_named n rows q (suc m) r low in_m h = list_any-append (λ (e : Equality). nat_eq e.register r) (live_places (slots n) rows q m) (if holds rows q m then place_in (slots n) m else [])
    ∙ by (nat_eq r m) refl (λ less. live_named n rows q m r (omega arith) less h)
  where
    by : (b : Bool) → nat_eq r m ≡ b → (r < m → has (live_places (slots n) rows q m) r ≡ true) → (has (live_places (slots n) rows q m) r || has (if holds rows q m then place_in (slots n) m else []) r) ≡ true
    by true e before =
        let same : r ≡ m = grind (arith, nat_tests) in
        let here : holds rows q m ≡ true = ap (holds rows q) (sym same) ∙ h in
        or_right (has (live_places (slots n) rows q m) r) (has (if holds rows q m then place_in (slots n) m else []) r)
        (ap (λ b. has (if b then place_in (slots n) m else []) r) here ∙ ap (λ es. has es r) (place_slot n m (omega arith)) ∙ ap (λ b. b || false) (ap (nat_eq m) same ∙ equals_itself m))
    by false e before =
        let less : r < m = grind (arith, nat_tests) in
        ap (λ b. b || has (if holds rows q m then place_in (slots n) m else []) r) (before less)

pub starts_listed : (n : ℕ) (rows : List Bits) (p : ℕ) (blocks : List (Block ℕ)) → list_all (λ (es : List Equality). list_all (is_own n) es) (listed_starts (slots n) rows n p blocks) ≡ true
starts_listed n rows p [] = refl
starts_listed n rows p (b ∷ blocks) =
    ap (λ t. t && list_all (λ (es : List Equality). list_all (is_own n) es) (listed_starts (slots n) rows n (jump_point p b.lines + 1) blocks))
    (live_every n rows p n (is_own n) (omega arith) (λ r low h. own_own n r low))
    ∙ starts_listed n rows (jump_point p b.lines + 1) blocks

-- ---- liveness along the code

-- what stands at a point of the graph
record At (g : Graph) (p : ℕ) (u : Uses) (ns : List ℕ) : Type 0 where
  uses : slice_get g.uses p ≡ Some u
  nexts : slice_get g.nexts p ≡ Some ns

flow_at : (g : Graph) (n : ℕ) (rows : List Bits) → AreLive g n rows → (p q r : ℕ) (u : Uses) (ns : List ℕ) → At g p u ns → is_in ns q ≡ true → option_map_or (λ k. nat_eq k r) u.writes false ≡ false
    → holds rows q r ≡ true → holds rows p r ≡ true
flow_at g n rows live p q r u ns at leads_there unwritten h =
    let path = live.live q r h in
    let no_write : writes g p r ≡ false = ap (λ (o : Option Uses). option_map_or (λ (x : Uses). option_map_or (λ k. nat_eq k r) x.writes false) o false) at.uses ∙ unwritten in
    let goes : leads g p q ≡ true = ap (λ (o : Option (List ℕ)). option_map_or (λ ks. list_any (λ k. nat_eq k q) ks) o false) at.nexts ∙ leads_there in
    live.marked p r (live.known q r h) (suc path.0, (no_write, (q, goes, path.1)))

read_at : (g : Graph) (n : ℕ) (rows : List Bits) → AreLive g n rows → (p : ℕ) (u : Uses) (ns : List ℕ) → At g p u ns → list_all (is_below n) u.reads ≡ true → list_all (holds rows p) u.reads ≡ true
read_at g n rows live p u ns at below =
    every_in (holds rows p) u.reads (λ r h.
    let e : nat_lt r n ≡ true = one_in (is_below n) u.reads r below h in
    let low : r < n = grind (arith, nat_tests) in
    live.marked p r low (0, ap (λ (o : Option Uses). option_map_or (λ (x : Uses). list_any (λ k. nat_eq k r) x.reads) o false) at.uses ∙ h))

-- the certificate has what the point names in slots
named_at : (v : Code ℕ) (n : ℕ) (rows : List Bits) (p : ℕ) (u : Uses) → slice_get (uses v.blocks) p ≡ Some u → list_all (is_below n) u.reads ≡ true → below_wanted n u.writes ≡ true
    → (list_all (own_at (slotted v n rows) p) u.reads ≡ true) × (option_map_or (own_at (slotted v n rows) p) u.writes true ≡ true)
named_at v n rows p u at below under =
    let here : places_at (slotted v n rows) p ≡ point_places (slots n) u =
    ap (λ (o : Option (List Equality)). option_map_or (λ (es : List Equality). es) o []) (slice_get-map (point_places (slots n)) (uses v.blocks) p ∙ ap (option_map (point_places (slots n))) at) in
    let owned = point_own n u below under in (
      every_in (own_at (slotted v n rows) p) u.reads (λ r h. ap (λ es. same_location (place_by es r) (Slot r)) here ∙ ap (λ (q : Location). same_location q (Slot r)) (owned.0 r h) ∙ equals_itself r),
      by u.writes refl here owned.1,
    )
  where
    by : (w : Option ℕ) → u.writes ≡ w → places_at (slotted v n rows) p ≡ point_places (slots n) u → ((r : ℕ) → u.writes ≡ Some r → place_by (point_places (slots n) u) r ≡ Slot r)
        → option_map_or (own_at (slotted v n rows) p) u.writes true ≡ true
    by None e here owned = ap (λ o. option_map_or (own_at (slotted v n rows) p) o true) e
    by (Some r) e here owned =
        ap (λ o. option_map_or (own_at (slotted v n rows) p) o true) e
        ∙ ap (λ es. same_location (place_by es r) (Slot r)) here ∙ ap (λ (q : Location). same_location q (Slot r)) (owned r e) ∙ equals_itself r

-- where block k begins
start_is : (v : Code ℕ) (n : ℕ) (rows : List Bits) (k : ℕ) (o : Option ℕ) → slice_get (firsts_from 0 v.blocks) k ≡ o
    → starts_at (slotted v n rows) k ≡ option_map_or (λ q. live_places (slots n) rows q n) o []
start_is v n rows k o e =
    ap (λ (x : Option (List Equality)). option_map_or (λ (es : List Equality). es) x []) (listed_get n rows 0 v.blocks k ∙ ap (option_map (λ q. live_places (slots n) rows q n)) e) ∙ joined o
  where
    joined : (x : Option ℕ) → option_map_or (λ (es : List Equality). es) (option_map (λ q. live_places (slots n) rows q n) x) [] ≡ option_map_or (λ q. live_places (slots n) rows q n) x []
    joined None = refl
    joined (Some q) = refl

target_so : (v : Code ℕ) (n : ℕ) (rows : List Bits) (p k : ℕ) → ((q r : ℕ) → slice_get (firsts_from 0 v.blocks) k ≡ Some q → holds rows q r ≡ true → holds rows p r ≡ true)
    → start_wanted (holds rows) (slotted v n rows) p k ≡ true
target_so v n rows p k goes = by (slice_get (firsts_from 0 v.blocks) k) refl
  where
    by : (o : Option ℕ) → slice_get (firsts_from 0 v.blocks) k ≡ o → start_wanted (holds rows) (slotted v n rows) p k ≡ true
    by None e = ap (λ es. list_all (λ (x : Equality). holds rows p x.register) es) (start_is v n rows k None e)
    by (Some q) e =
        ap (λ es. list_all (λ (x : Equality). holds rows p x.register) es) (start_is v n rows k (Some q) e)
        ∙ live_every n rows q n (λ (x : Equality). holds rows p x.register) (omega arith) (λ r low h. goes q r e h)

start_kept : (ks : List ℕ) (o : Option ℕ) (q : ℕ) → is_in ks q ≡ true → is_in (with_start ks o) q ≡ true
start_kept ks None q h = h
start_kept ks (Some k) q h = list_any-append (λ j. nat_eq j q) ks (k ∷ []) ∙ or_left (is_in ks q) (is_in (k ∷ []) q) h

start_in : (ks : List ℕ) (o : Option ℕ) (q : ℕ) → o ≡ Some q → is_in (with_start ks o) q ≡ true
start_in ks o q e = ap (λ x. is_in (with_start ks x) q) e ∙ list_any-append (λ j. nat_eq j q) ks (q ∷ []) ∙ or_right (is_in ks q) (is_in (q ∷ []) q) (ap (λ b. b || false) (equals_itself q))

targets_so : (v : Code ℕ) (n : ℕ) (rows : List Bits) → AreLive (graph_of v) n rows → (p : ℕ) (j : Jump ℕ) → At (graph_of v) p (jump_uses j) (jump_next (firsts_from 0 v.blocks) j)
    → targets_wanted (holds rows) (slotted v n rows) p j ≡ true
targets_so v n rows live p (Goto k) at =
    target_so v n rows p k (λ q r e h. flow_at (graph_of v) n rows live p q r (jump_uses (Goto k)) (jump_next (firsts_from 0 v.blocks) (Goto k)) at (start_in [] (slice_get (firsts_from 0 v.blocks) k) q e) refl h)
targets_so v n rows live p (Branch on met otherwise) at =
    let firsts = firsts_from 0 v.blocks in
    ap (λ b. b && start_wanted (holds rows) (slotted v n rows) p otherwise)
    (target_so v n rows p met (λ q r e h. flow_at (graph_of v) n rows live p q r (jump_uses (Branch on met otherwise)) (jump_next firsts (Branch on met otherwise)) at
    (start_kept (with_start [] (slice_get firsts met)) (slice_get firsts otherwise) q (start_in [] (slice_get firsts met) q e)) refl h))
    ∙ target_so v n rows p otherwise (λ q r e h. flow_at (graph_of v) n rows live p q r (jump_uses (Branch on met otherwise)) (jump_next firsts (Branch on met otherwise)) at
    (start_in (with_start [] (slice_get firsts met)) (slice_get firsts otherwise) q e) refl h)
targets_so v n rows live p (Return a) at = refl
targets_so v n rows live p Halt at = refl

-- the graph has the points from here on
record Ahead (g : Graph) (p : ℕ) (us allu : List Uses) (ns alln : List (List ℕ)) : Type 0 where
  us_count : length us ≡ p
  ns_count : length ns ≡ p
  uses : Begins allu g.uses
  nexts : Begins alln g.nexts

here_is : (g : Graph) (p : ℕ) (us : List Uses) (u : Uses) (ns : List (List ℕ)) (k : List ℕ) → length us ≡ p → length ns ≡ p → Begins (us ++ u ∷ []) g.uses → Begins (ns ++ k ∷ []) g.nexts → At g p u k
here_is g p us u ns k cu cn bu bn =
    record {
      uses = bu p u (ap (slice_get (us ++ u ∷ [])) (sym cu) ∙ get_last us u);
      nexts = bn p k (ap (slice_get (ns ++ k ∷ [])) (sym cn) ∙ get_last ns k);
    }

abbrev Both : Code ℕ → ℕ → List Bits → ℕ → Jump ℕ → List (Line ℕ) → Type 0
Both v n rows p j lines = LinesWant (holds rows) (slotted v n rows) p j lines × (lines_own (slotted v n rows) p j lines ≡ true)

-- what is live behind a line is live before it, but for what it writes
point_flows : (v : Code ℕ) (n : ℕ) (rows : List Bits) → AreLive (graph_of v) n rows → (p q r : ℕ) (l : Line ℕ) (ns : List (List ℕ)) → At (graph_of v) p (line_uses l) (after_point (length ns)) → q ≡ length ns + 1
    → holds rows q r ≡ true → (holds rows p r || writes_to l r) ≡ true
point_flows v n rows live p q r l ns at is h = by (writes_to l r) refl
  where
    by : (b : Bool) → writes_to l r ≡ b → (holds rows p r || writes_to l r) ≡ true
    by true e = or_right (holds rows p r) (writes_to l r) e
    by false e =
        or_left (holds rows p r) (writes_to l r)
        (flow_at (graph_of v) n rows live p (length ns + 1) r (line_uses l) (after_point (length ns)) at (ap (λ b. b || false) (equals_itself (length ns + 1))) e (ap (λ k. holds rows k r) (sym is) ∙ h))

lines_so : (v : Code ℕ) (n : ℕ) (rows : List Bits) → AreLive (graph_of v) n rows → (p : ℕ) (j : Jump ℕ) (lines : List (Line ℕ)) (us : List Uses) (ns : List (List ℕ))
    → length us ≡ p → length ns ≡ p → Begins (with_lines us lines ++ jump_uses j ∷ []) (uses v.blocks) → Begins (next_lines ns lines ++ jump_next (firsts_from 0 v.blocks) j ∷ []) (graph_of v).nexts
    → list_all (line_keeps (is_below n)) lines ≡ true → jump_keeps (is_below n) j ≡ true → Both v n rows p j lines
lines_so v n rows live p j [] us ns cu cn bu bn below under =
    let at : At (graph_of v) p (jump_uses j) (jump_next (firsts_from 0 v.blocks) j) = here_is (graph_of v) p us (jump_uses j) ns (jump_next (firsts_from 0 v.blocks) j) cu cn bu bn in
    let low : list_all (is_below n) (jump_reads j) ≡ true = sym (jump_below (is_below n) j) ∙ under in (
      (read_at (graph_of v) n rows live p (jump_uses j) (jump_next (firsts_from 0 v.blocks) j) at low, targets_so v n rows live p j at),
      jump_below (own_at (slotted v n rows) p) j ∙ (named_at v n rows p (jump_uses j) at.uses low refl).0,
    )
lines_so v n rows live p j (l ∷ lines) us ns cu cn bu bn below under =
    let s = and_parts (line_keeps (is_below n) l) (list_all (line_keeps (is_below n)) lines) below in
    elim (kind l) [
      | inl t ↦ (
          let rest = lines_so v n rows live (next_point p l) j lines (with_line us l) (next_line ns l) (ap length (t.uses us) ∙ cu ∙ sym (t.next p)) (ap length (t.nexts ns) ∙ cn ∙ sym (t.next p)) bu bn s.1 under in (
            (
              ap (list_all (holds rows p)) t.reads,
              (λ r h. or_left (holds rows p r) (writes_to l r) (ap (λ k. holds rows k r) (sym (t.next p)) ∙ h), rest.0),
            ),
            ap (λ b. b && lines_own (slotted v n rows) (next_point p l) j lines) (t.keeps (own_at (slotted v n rows) p)) ∙ rest.1,
          )
          )
      | inr t ↦ (
          let count_u : length (with_line us l) ≡ next_point p l = ap length (t.uses us) ∙ one_more us (line_uses l) ∙ ap (λ k. k + 1) cu ∙ sym (t.next p) in
          let count_n : length (next_line ns l) ≡ next_point p l = ap length (t.nexts ns) ∙ one_more ns (after_point (length ns)) ∙ ap (λ k. k + 1) cn ∙ sym (t.next p) in
          let rest = lines_so v n rows live (next_point p l) j lines (with_line us l) (next_line ns l) count_u count_n bu bn s.1 under in
          let at : At (graph_of v) p (line_uses l) (after_point (length ns)) =
          here_is (graph_of v) p us (line_uses l) ns (after_point (length ns)) cu cn
          (λ q x h. bu q x (get_before (with_lines (with_line us l) lines) (jump_uses j ∷ []) q x (uses_begin (with_line us l) lines q x (ap (λ xs. slice_get xs q) (t.uses us) ∙ h))))
          (λ q x h. bn q x (get_before (next_lines (next_line ns l) lines) (jump_next (firsts_from 0 v.blocks) j ∷ []) q x (nexts_begin (next_line ns l) lines q x (ap (λ xs. slice_get xs q) (t.nexts ns) ∙ h)))) in
          let low = names_below (is_below n) l s.0 in
          let named = named_at v n rows p (line_uses l) at.uses low.0 low.1 in (
            (
              read_at (graph_of v) n rows live p (line_uses l) (after_point (length ns)) at low.0,
              (
                λ r h. point_flows v n rows live p (next_point p l) r l ns at (t.next p ∙ ap (λ k. k + 1) (sym cn)) h,
                rest.0,
              ),
            ),
            ap (λ b. b && lines_own (slotted v n rows) (next_point p l) j lines) (names_all (own_at (slotted v n rows) p) l named.0 named.1) ∙ rest.1,
          )
          )
    ]

-- ---- blocks

count_next : (ns : List (List ℕ)) (lines : List (Line ℕ)) → length (next_lines ns lines) ≡ jump_point (length ns) lines
count_next ns [] = refl
count_next ns (l ∷ lines) = count_next (next_line ns l) lines ∙ ap (λ k. jump_point k lines) (elim (kind l) [
  | inl t ↦ ap length (t.nexts ns) ∙ sym (t.next (length ns))
  | inr t ↦ ap length (t.nexts ns) ∙ one_more ns (after_point (length ns)) ∙ sym (t.next (length ns))
])

blocks_so : (v : Code ℕ) (n : ℕ) (rows : List Bits) → AreLive (graph_of v) n rows → (p k : ℕ) (blocks : List (Block ℕ)) (us : List Uses) (ns : List (List ℕ))
    → length us ≡ p → length ns ≡ p → Begins (with_blocks us blocks) (uses v.blocks) → Begins (next_blocks (firsts_from 0 v.blocks) ns blocks) (graph_of v).nexts
    → ((i q : ℕ) → slice_get (firsts_from p blocks) i ≡ Some q → slice_get (firsts_from 0 v.blocks) (k + i) ≡ Some q)
    → list_all (block_keeps (is_below n)) blocks ≡ true
    → BlocksWant (holds rows) (slotted v n rows) p k blocks × (blocks_own (slotted v n rows) p blocks ≡ true)
blocks_so v n rows live p k [] us ns cu cn bu bn firsts below = (tt, refl)
blocks_so v n rows live p k (b ∷ blocks) us ns cu cn bu bn firsts below =
    let s = and_parts (block_keeps (is_below n) b) (list_all (block_keeps (is_below n)) blocks) below in
    let t = and_parts (list_all (line_keeps (is_below n)) b.lines) (jump_keeps (is_below n) b.jump) s.0 in
    let here = lines_so v n rows live p b.jump b.lines us ns cu cn (λ q x h. bu q x (blocks_begin (with_block us b) blocks q x h))
    (λ q x h. bn q x (next_blocks_begin (firsts_from 0 v.blocks) (next_block (firsts_from 0 v.blocks) ns b) blocks q x h)) t.0 t.1 in
    let count_u : length (with_block us b) ≡ jump_point p b.lines + 1 = block_count us b ∙ ap (λ i. jump_point i b.lines + 1) cu in
    let count_n : length (next_block (firsts_from 0 v.blocks) ns b) ≡ jump_point p b.lines + 1 =
    one_more (next_lines ns b.lines) (jump_next (firsts_from 0 v.blocks) b.jump) ∙ ap (λ i. i + 1) (count_next ns b.lines ∙ ap (λ i. jump_point i b.lines) cn) in
    let rest = blocks_so v n rows live (jump_point p b.lines + 1) (k + 1) blocks (with_block us b) (next_block (firsts_from 0 v.blocks) ns b) count_u count_n bu bn
    (λ i q h. ap (slice_get (firsts_from 0 v.blocks)) (let e : (k + 1) + i ≡ k + suc i = omega arith in e) ∙ firsts (suc i) q h) s.1 in
    let start : slice_get (firsts_from 0 v.blocks) k ≡ Some p = ap (slice_get (firsts_from 0 v.blocks)) (let e : k ≡ k + 0 = omega arith in e) ∙ firsts 0 p refl in (
      (
        λ r h. ap (λ es. names es r) (start_is v n rows k (Some p) start) ∙ live_named n rows p n r (omega arith) (live.known p r h) h,
        (here.0, rest.0),
      ),
      ap (λ x. x && blocks_own (slotted v n rows) (jump_point p b.lines + 1) blocks) here.1 ∙ rest.1,
    )

-- ---- all of it

starts_count : (n : ℕ) (rows : List Bits) (p : ℕ) (blocks : List (Block ℕ)) → length (listed_starts (slots n) rows n p blocks) ≡ length blocks
starts_count n rows p [] = refl
starts_count n rows p (b ∷ blocks) = ap suc (starts_count n rows (jump_point p b.lines + 1) blocks)

lengths_listed : (v : Code ℕ) (n : ℕ) (rows : List Bits) → list_all (λ (d : Destination ℕ). is_below n d.place) v.params ≡ true → has_lengths v (slotted v n rows) ≡ true
lengths_listed v n rows low =
    let c = slotted v n rows in
    let points : end_point 0 v.blocks ≡ length (uses v.blocks) = sym (uses_count v.blocks) in
    let params = eq-eqb (length c.params) (length v.params) (ap length (params_listed n v.params low) ∙ map_length (λ (d : Destination ℕ). Slot d.place) v.params) in
    let starts = eq-eqb (length c.starts) (length v.blocks) (starts_count n rows 0 v.blocks) in
    let moves = eq-eqb (end_point 0 v.blocks) (length c.moves) (points ∙ sym (map_length no_moves (uses v.blocks))) in
    let places = eq-eqb (end_point 0 v.blocks) (length c.places) (points ∙ sym (map_length (point_places (slots n)) (uses v.blocks))) in
    ap (λ b. b && (nat_eq (length c.starts) (length v.blocks) && (nat_eq (end_point 0 v.blocks) (length c.moves) && nat_eq (end_point 0 v.blocks) (length c.places)))) params
    ∙ ap (λ b. b && (nat_eq (end_point 0 v.blocks) (length c.moves) && nat_eq (end_point 0 v.blocks) (length c.places))) starts
    ∙ ap (λ b. b && nat_eq (end_point 0 v.blocks) (length c.places)) moves
    ∙ places

pub spilled : (v : VFunc) (rows : List Bits) → AreLive (graph_of v.code) v.registers rows → IsSlotted (holds rows) v (slotted v.code v.registers rows)
spilled v rows live =
    let s = and_parts (list_all (λ (d : Destination ℕ). is_below v.registers d.place) v.code.params) (list_all (block_keeps (is_below v.registers)) v.code.blocks)
    (from_true (keeps_places (is_below v.registers) v.code) v.known) in
    let firsts : starts v.code.blocks ≡ firsts_from 0 v.code.blocks = starts_same [] v.code.blocks in
    let owned = points_own v.registers (uses v.code.blocks) (blocks_below v.registers [] v.code.blocks refl s.1) in
    let all = blocks_so v.code v.registers rows live 0 0 v.code.blocks [] [] refl refl (λ q x h. h)
    (λ q x h. ap (λ fs. slice_get (next_blocks fs [] v.code.blocks) q) firsts ∙ h)
    (λ i q h. ap (slice_get (firsts_from 0 v.code.blocks)) (let e : 0 + i ≡ i = omega arith in e) ∙ h) s.1 in
    record {
      params = params_listed v.registers v.code.params s.0;
      lengths = lengths_listed v.code v.registers rows s.0;
      still = still_listed (uses v.code.blocks);
      everywhere = refl;
      starts = starts_listed v.registers rows 0 v.code.blocks;
      owned = owned.0;
      once = owned.1;
      places = all.1;
      wants = all.0;
    }
