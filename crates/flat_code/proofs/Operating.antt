-- Operations on numbers that show values: what they give shows what the operations on values give.
use Rattle.std.proofs.Common.{◌≡◌, ◌≢◌, ℕ, ◌+◌, ◌-◌, ◌%◌, ◌^◌, ◌<◌, ◌≤◌, Bool, true, false, not, ◌&&◌, if◌then◌else◌, length, Option, Some, None, refl, sym, ◌∙◌, ap, subst, arith, nat_eq, nat_le, nat_lt, option_map, option_and_then, eqb-true}
use Rattle.std.proofs.Math.Nat.{mod-add-mod, add-mod-mod}
use Rattle.std.proofs.lemmas.Bool.Decides.{nat_tests}
use Rattle.il_ast.specs.declared.operation.Class.{Class}
use Rattle.il_ast.specs.declared.operation.Class.TheVariants.{W}
use Rattle.il_ast.specs.declared.operation.Condition.{Condition}
use Rattle.il_ast.specs.declared.operation.Condition.TheVariants.{Equal, NotEqual, SignedLessEqual, SignedLess, SignedGreaterEqual, SignedGreater, UnsignedLessEqual, UnsignedLess, UnsignedGreaterEqual, UnsignedGreater}
use Rattle.il_ast.specs.declared.operation.BinaryOp.TheVariants.{Compare as CompareOp}
use Rattle.il_ast.specs.declared.value.Callee.{Callee}
use Rattle.il_ast.specs.declared.value.Callee.TheVariants.{Defined, SystemWrite, SystemExit}
use Rattle.il_ast.specs.declared.value.Value.{Value}
use Rattle.il_ast.specs.declared.value.Value.TheVariants.{Integer, Pointer, Function}
use Rattle.il_ast.specs.Prelude.{in_place, same_callee, Memory, holds, truth, where_different, on_offsets, on_functions, reaches, lies_in, compare_places, compare_with_zero, operate_two}
use Rattle.rv_isa.specs.declared.instruction.RegOp.{RegOp}
use Rattle.rv_isa.specs.declared.instruction.RegOp.TheVariants.{Add, Sub}
use Rattle.rv_isa.specs.Prelude.{reg_value, regw_value}
use Rattle.vcode.specs.declared.line.Operation.{Operation}
use Rattle.vcode.specs.declared.line.Operation.TheVariants.{Reg, RegW, Compare}
use Rattle.vcode.specs.Prelude.{reg_on_places, operate}
use Rattle.flat_code.specs.Flat.{Bases, Entries, Spots, Shows, ShowsMemory, AreEntries}
use Rattle.flat_code.specs.Step.{taken, computed}
use Rattle.flat_code.proofs.Shown.{taken_shown}
use Rattle.flat_code.proofs.Standing.{Stands, stands, reached, inside, two_addresses}
use Rattle.il_ast.proofs.Truth.{equals_itself}
use Rattle.std.proofs.lemmas.Option.{same_Some, none-some}
use Rattle.il_ast.proofs.Alike.{callee_itself}

-- ---- addresses modulo 2^64

add_address : (a o n : ℕ) → ((a + o) % 2 ^ 64 + n) % 2 ^ 64 ≡ (a + (o + n) % 2 ^ 64) % 2 ^ 64
add_address a o n =
    let same : a + o + n ≡ a + (o + n) = omega arith in
    mod-add-mod (a + o) (2 ^ 64) n ∙ (ap (λ k. k % 2 ^ 64) same ∙ sym (add-mod-mod a (o + n) (2 ^ 64)))

sub_addresses : (a o q : ℕ) → ((a + o) % 2 ^ 64 + (2 ^ 64 - (a + q) % 2 ^ 64)) % 2 ^ 64 ≡ (o + (2 ^ 64 - q % 2 ^ 64)) % 2 ^ 64
sub_addresses a o q = omega arith

-- ---- adding and subtracting

swapped : (x y : ℕ) → x + y ≡ y + x
swapped x y = omega arith

pointers_subtracted : (e : Entries) (p : Bases) (a o b q x y : ℕ) (w : Value) → Shows e p (Pointer a o) x → Shows e p (Pointer b q) y → (t : Bool) → nat_eq a b ≡ t
    → (if t then Some (Integer ((o + (2 ^ 64 - q % 2 ^ 64)) % 2 ^ 64)) else None) ≡ Some w → Shows e p w ((x + (2 ^ 64 - y)) % 2 ^ 64)
pointers_subtracted e p a o b q x y w h k false test is = absurd (none-some w is)
pointers_subtracted e p a o b q x y w h k true test is =
    let one : b ≡ a = equal a b test in
    let same : k.0 ≡ h.0 = same_Some k.0 h.0 (sym k.1 ∙ (ap p one ∙ h.1)) in
    subst (λ (z : Value). Shows e p z ((x + (2 ^ 64 - y)) % 2 ^ 64)) (same_Some (Integer ((o + (2 ^ 64 - q % 2 ^ 64)) % 2 ^ 64)) w is)
    (ap (λ z. (z + (2 ^ 64 - y)) % 2 ^ 64) h.2
    ∙ (ap (λ z. ((h.0 + o) % 2 ^ 64 + (2 ^ 64 - z)) % 2 ^ 64) (k.2 ∙ ap (λ c. (c + q) % 2 ^ 64) same) ∙ sub_addresses h.0 o q))
  where
    equal : (a b : ℕ) → nat_eq a b ≡ true → b ≡ a
    equal a b h = grind (arith, nat_tests)

places_operated : (e : Entries) (p : Bases) (m : Memory) (op : RegOp) (u v w : Value) (x y : ℕ) → Shows e p u x → Shows e p v y → reg_on_places m op u v ≡ Some w → Shows e p w (reg_value op x y)
places_operated e p m Add (Pointer b o) (Integer n) w x y h k is =
    subst (λ (z : Value). Shows e p z ((x + y) % 2 ^ 64)) (same_Some (Pointer b ((o + n) % 2 ^ 64)) w is)
    (h.0, h.1, ap (λ z. (z + y) % 2 ^ 64) h.2 ∙ (ap (λ z. ((h.0 + o) % 2 ^ 64 + z) % 2 ^ 64) k ∙ add_address h.0 o n))
places_operated e p m Add (Integer n) (Pointer b o) w x y h k is =
    subst (λ (z : Value). Shows e p z ((x + y) % 2 ^ 64)) (same_Some (Pointer b ((o + n) % 2 ^ 64)) w is)
    (k.0, k.1, ap (λ z. z % 2 ^ 64) (swapped x y) ∙ (ap (λ z. (z + x) % 2 ^ 64) k.2 ∙ (ap (λ z. ((k.0 + o) % 2 ^ 64 + z) % 2 ^ 64) h ∙ add_address k.0 o n)))
places_operated e p m Sub (Pointer b o) (Integer n) w x y h k is =
    subst (λ (z : Value). Shows e p z ((x + (2 ^ 64 - y)) % 2 ^ 64)) (same_Some (Pointer b ((o + (2 ^ 64 - n)) % 2 ^ 64)) w is)
    (h.0, h.1, ap (λ z. (z + (2 ^ 64 - y)) % 2 ^ 64) h.2 ∙ (ap (λ z. ((h.0 + o) % 2 ^ 64 + (2 ^ 64 - z)) % 2 ^ 64) k ∙ add_address h.0 o (2 ^ 64 - n)))
places_operated e p m Sub (Pointer a o) (Pointer b q) w x y h k is = pointers_subtracted e p a o b q x y w h k (nat_eq a b) refl is
places_operated e p m op u v w x y h k is = absurd (none-some w is)

-- ---- comparing

offsets_compared : (on : Condition) (k : Class) (a o q : ℕ) (t : Bool) → on_offsets on o q ≡ Some t → holds on k (a + o) (a + q) ≡ t
offsets_compared Equal k a o q t is = shifted a o q ∙ same_Some (nat_eq o q) t is
  where
    shifted : (a o q : ℕ) → nat_eq (a + o) (a + q) ≡ nat_eq o q
    shifted a o q = grind (arith, nat_tests)
offsets_compared NotEqual k a o q t is = ap not (shifted a o q) ∙ same_Some (not (nat_eq o q)) t is
  where
    shifted : (a o q : ℕ) → nat_eq (a + o) (a + q) ≡ nat_eq o q
    shifted a o q = grind (arith, nat_tests)
offsets_compared UnsignedLessEqual k a o q t is = shifted a o q ∙ same_Some (nat_le o q) t is
  where
    shifted : (a o q : ℕ) → nat_le (a + o) (a + q) ≡ nat_le o q
    shifted a o q = grind (arith, nat_tests)
offsets_compared UnsignedLess k a o q t is = shifted a o q ∙ same_Some (nat_lt o q) t is
  where
    shifted : (a o q : ℕ) → nat_lt (a + o) (a + q) ≡ nat_lt o q
    shifted a o q = grind (arith, nat_tests)
offsets_compared UnsignedGreaterEqual k a o q t is = shifted a q o ∙ same_Some (nat_le q o) t is
  where
    shifted : (a o q : ℕ) → nat_le (a + o) (a + q) ≡ nat_le o q
    shifted a o q = grind (arith, nat_tests)
offsets_compared UnsignedGreater k a o q t is = shifted a q o ∙ same_Some (nat_lt q o) t is
  where
    shifted : (a o q : ℕ) → nat_lt (a + o) (a + q) ≡ nat_lt o q
    shifted a o q = grind (arith, nat_tests)
offsets_compared SignedLessEqual k a o q t is = absurd (none-some t is)
offsets_compared SignedLess k a o q t is = absurd (none-some t is)
offsets_compared SignedGreaterEqual k a o q t is = absurd (none-some t is)
offsets_compared SignedGreater k a o q t is = absurd (none-some t is)

not_equal : (x y : ℕ) → x ≢ y → nat_eq x y ≡ false
not_equal x y differ = grind (arith, nat_tests)

different_compared : (on : Condition) (k : Class) (x y : ℕ) (t : Bool) → x ≢ y → where_different on ≡ Some t → holds on k x y ≡ t
different_compared Equal k x y t differ is = not_equal x y differ ∙ same_Some false t is
different_compared NotEqual k x y t differ is = ap not (not_equal x y differ) ∙ same_Some true t is
different_compared on k x y t differ is = absurd (none-some t is)

functions_compared : (on : Condition) (k : Class) (x y : ℕ) (same t : Bool) → nat_eq x y ≡ same → on_functions on same ≡ Some t → holds on k x y ≡ t
functions_compared Equal k x y same t e is = e ∙ same_Some same t is
functions_compared NotEqual k x y same t e is = ap not e ∙ same_Some (not same) t is
functions_compared on k x y same t e is = absurd (none-some t is)

pub callee_is : (f g : Callee) → same_callee f g ≡ true → f ≡ g
callee_is (Defined n) (Defined m) h = ap Defined (eqb-true n m h)
callee_is SystemWrite SystemWrite h = refl
callee_is SystemExit SystemExit h = refl
callee_is (Defined n) SystemWrite h = cc
callee_is (Defined n) SystemExit h = cc
callee_is SystemWrite (Defined n) h = cc
callee_is SystemWrite SystemExit h = cc
callee_is SystemExit (Defined n) h = cc
callee_is SystemExit SystemWrite h = cc

-- functions are the same just where their addresses are
entries_compared : (e : Entries) → AreEntries e → (f g : Callee) (x y : ℕ) → e f ≡ Some x → e g ≡ Some y → nat_eq x y ≡ same_callee f g
entries_compared e entries f g x y h k = by_test (same_callee f g) (nat_eq x y) refl refl
  where
    true_false : true ≡ false → ⊥
    true_false h = cc

    by_test : (s t : Bool) → same_callee f g ≡ s → nat_eq x y ≡ t → t ≡ s
    by_test true true a b = refl
    by_test false false a b = refl
    by_test true false a b =
        let one : y ≡ x = same_Some y x (sym k ∙ (ap e (sym (callee_is f g a)) ∙ h)) in
        absurd (true_false (sym (equals_itself x) ∙ (ap (nat_eq x) (sym one) ∙ b)))
    by_test false true a b =
        let one : f ≡ g = entries.distinct f g x h (k ∙ ap (λ (n : ℕ). Some n) (sym (eqb-true x y b))) in
        absurd (true_false (sym (callee_itself f) ∙ (ap (same_callee f) one ∙ a)))

-- what holds where two tests pass
both_pass : {A : Type 0} (r s : Bool) (o : Option A) (t : A) → (if r && s then o else None) ≡ Some t → (r ≡ true) × (s ≡ true) × (o ≡ Some t)
both_pass true true o t h = (refl, refl, h)
both_pass true false o t h = absurd (none-some t h)
both_pass false s o t h = absurd (none-some t h)

pointers_compared : (e : Entries) (p : Bases) (m : Memory) (f : Spots) → ShowsMemory e p m f → (on : Condition) (k : Class) (a o b q x y : ℕ) (t same : Bool) → Shows e p (Pointer a o) x → Shows e p (Pointer b q) y → nat_eq a b ≡ same
    → (if same then (if reaches m a o && reaches m b q then on_offsets on o q else None) else (if lies_in m a o && lies_in m b q then where_different on else None)) ≡ Some t
    → holds on k x y ≡ t
pointers_compared e p m f memory on k a o b q x y t true h g test is =
    let pass = both_pass (reaches m a o) (reaches m b q) (on_offsets on o q) t is in
    let one = reached m a o pass.0 in
    let two = reached m b q pass.1 in
    let first : Stands p a o x one.0 = stands e p m f a o x one.0 memory one.1 one.2 h in
    let second : Stands p b q y two.0 = stands e p m f b q y two.0 memory two.1 two.2 g in
    let same : second.base ≡ first.base = same_Some second.base first.base (sym second.is ∙ (ap p (sym (eqb-true a b test)) ∙ first.is)) in
    ap (λ z. holds on k z y) first.at
    ∙ (ap (λ z. holds on k (first.base + o) z) (second.at ∙ ap (λ c. c + q) same) ∙ offsets_compared on k first.base o q t pass.2)
pointers_compared e p m f memory on k a o b q x y t false h g test is =
    let pass = both_pass (lies_in m a o) (lies_in m b q) (where_different on) t is in
    let one = inside m a o pass.0 in
    let two = inside m b q pass.1 in
    let first : Stands p a o x one.0 = stands e p m f a o x one.0 memory one.1 (less o (length one.0) one.2) h in
    let second : Stands p b q y two.0 = stands e p m f b q y two.0 memory two.1 (less q (length two.0) two.2) g in
    let differ : a ≢ b = unlike a b test in
    let apart : first.base + o ≢ second.base + q =
    two_addresses e p m f a b first.base second.base o q one.0 two.0 memory differ one.1 two.1 first.is second.is one.2 two.2
    in
    different_compared on k x y t (λ s. apart (sym first.at ∙ (s ∙ second.at))) pass.2
  where
    less : (i n : ℕ) → i < n → i ≤ n
    less i n h = omega arith

    unlike : (a b : ℕ) → nat_eq a b ≡ false → a ≢ b
    unlike a b h = grind (arith, nat_tests)

zero_compared : (e : Entries) (p : Bases) (m : Memory) (f : Spots) → ShowsMemory e p m f → (on : Condition) (n b o x y : ℕ) (t : Bool) → Shows e p (Pointer b o) x → y ≡ n
    → compare_with_zero m on n b o ≡ Some t → (x ≢ y) × (where_different on ≡ Some t)
zero_compared e p m f memory on n b o x y t h g is =
    let pass = both_pass (nat_eq n 0) (reaches m b o) (where_different on) t is in
    let one = reached m b o pass.1 in
    let at : Stands p b o x one.0 = stands e p m f b o x one.0 memory one.1 one.2 h in
    let zero_is : n ≡ 0 = eqb-true n 0 pass.0 in
    (not_zero x at.base o y at.above_zero at.at (g ∙ zero_is), pass.2)
  where
    not_zero : (x a o y : ℕ) → 0 < a → x ≡ a + o → y ≡ 0 → x ≢ y
    not_zero x a o y h at is same = absurd (omega arith)

places_compared : (e : Entries) (p : Bases) (m : Memory) (f : Spots) → AreEntries e → ShowsMemory e p m f → (on : Condition) (k : Class) (u v : Value) (x y : ℕ) (t : Bool) → Shows e p u x → Shows e p v y
    → compare_places m on u v ≡ Some t → holds on k x y ≡ t
places_compared e p m f entries memory on k (Pointer a o) (Pointer b q) x y t h g is = pointers_compared e p m f memory on k a o b q x y t (nat_eq a b) h g refl is
places_compared e p m f entries memory on k (Pointer b o) (Integer n) x y t h g is =
    let z = zero_compared e p m f memory on n b o x y t h g is in different_compared on k x y t z.0 z.1
places_compared e p m f entries memory on k (Integer n) (Pointer b o) x y t h g is =
    let z = zero_compared e p m f memory on n b o y x t g h is in different_compared on k x y t (λ s. z.0 (sym s)) z.1
places_compared e p m f entries memory on k (Function c) (Function d) x y t h g is =
    functions_compared on k x y (same_callee c d) t (entries_compared e entries c d x y h g) is
places_compared e p m f entries memory on k (Integer n) (Integer i) x y t h g is = absurd (none-some t is)
places_compared e p m f entries memory on k (Integer n) (Function d) x y t h g is = absurd (none-some t is)
places_compared e p m f entries memory on k (Pointer b o) (Function d) x y t h g is = absurd (none-some t is)
places_compared e p m f entries memory on k (Function c) (Integer n) x y t h g is = absurd (none-some t is)
places_compared e p m f entries memory on k (Function c) (Pointer b o) x y t h g is = absurd (none-some t is)

truth_shown : (e : Entries) (p : Bases) (o : Option Bool) (w : Value) (held : Bool) → ((t : Bool) → o ≡ Some t → held ≡ t) → option_map (λ (t : Bool). Integer (truth t)) o ≡ Some w → Shows e p w (truth held)
truth_shown e p None w held h is = absurd (none-some w is)
truth_shown e p (Some t) w held h is =
    subst (λ (z : Value). Shows e p z (truth held)) (same_Some (Integer (truth t)) w is) (ap truth (h t refl))

two_compared : (e : Entries) (p : Bases) (m : Memory) (f : Spots) → AreEntries e → ShowsMemory e p m f → (on : Condition) (k : Class) (u v w : Value) (x y : ℕ) → Shows e p u x → Shows e p v y
    → operate_two m (CompareOp on k) W u v ≡ Some w → Shows e p w (truth (holds on k x y))
unfolding operate_two
two_compared e p m f entries memory on k (Integer a) (Integer b) w x y h g is =
    subst (λ (z : Value). Shows e p z (truth (holds on k x y))) (same_Some (Integer (truth (holds on k a b))) w is)
    (ap (λ z. truth (holds on k z y)) h ∙ ap (λ z. truth (holds on k a z)) g)
two_compared e p m f entries memory on k (Integer a) (Pointer b q) w x y h g is =
    truth_shown e p (compare_places m on (Integer a) (Pointer b q)) w (holds on k x y) (λ t. places_compared e p m f entries memory on k (Integer a) (Pointer b q) x y t h g) is
two_compared e p m f entries memory on k (Integer a) (Function d) w x y h g is = absurd (none-some w is)
two_compared e p m f entries memory on k (Pointer a o) v w x y h g is =
    truth_shown e p (compare_places m on (Pointer a o) v) w (holds on k x y) (λ t. places_compared e p m f entries memory on k (Pointer a o) v x y t h g) is
two_compared e p m f entries memory on k (Function c) v w x y h g is =
    truth_shown e p (compare_places m on (Function c) v) w (holds on k x y) (λ t. places_compared e p m f entries memory on k (Function c) v x y t h g) is

values_compared : (e : Entries) (p : Bases) (m : Memory) (f : Spots) → AreEntries e → ShowsMemory e p m f → (on : Condition) (k : Class) (w : Value) (x y : ℕ) (u v : Value) → Shows e p u x → Shows e p v y → (a b : Option Value)
    → in_place k u ≡ a → in_place k v ≡ b → option_and_then (λ i. option_and_then (λ j. operate_two m (CompareOp on k) W i j) b) a ≡ Some w → Shows e p w (truth (holds on k (taken k x) (taken k y)))
values_compared e p m f entries memory on k w x y u v h g None b first second is = absurd (none-some w is)
values_compared e p m f entries memory on k w x y u v h g (Some i) None first second is = absurd (none-some w is)
values_compared e p m f entries memory on k w x y u v h g (Some i) (Some j) first second is =
    two_compared e p m f entries memory on k i j w (taken k x) (taken k y) (taken_shown e p k u i x h first) (taken_shown e p k v j y g second) is

-- ---- each operation

pub operated : (e : Entries) (p : Bases) (m : Memory) (f : Spots) → AreEntries e → ShowsMemory e p m f → (op : Operation) (u v w : Value) (x y : ℕ) → Shows e p u x → Shows e p v y
    → operate m op u v ≡ Some w → Shows e p w (computed op x y)
unfolding operate computed
operated e p m f entries memory (Reg op) (Integer a) (Integer b) w x y h g is =
    subst (λ (z : Value). Shows e p z (reg_value op x y)) (same_Some (Integer (reg_value op a b)) w is) (ap (λ z. reg_value op z y) h ∙ ap (reg_value op a) g)
operated e p m f entries memory (Reg op) (Integer a) (Pointer b q) w x y h g is = places_operated e p m op (Integer a) (Pointer b q) w x y h g is
operated e p m f entries memory (Reg op) (Integer a) (Function d) w x y h g is = places_operated e p m op (Integer a) (Function d) w x y h g is
operated e p m f entries memory (Reg op) (Pointer a o) v w x y h g is = places_operated e p m op (Pointer a o) v w x y h g is
operated e p m f entries memory (Reg op) (Function c) v w x y h g is = places_operated e p m op (Function c) v w x y h g is
operated e p m f entries memory (RegW op) (Integer a) (Integer b) w x y h g is =
    subst (λ (z : Value). Shows e p z (regw_value op x y)) (same_Some (Integer (regw_value op a b)) w is) (ap (λ z. regw_value op z y) h ∙ ap (regw_value op a) g)
operated e p m f entries memory (RegW op) (Integer a) (Pointer b q) w x y h g is = absurd (none-some w is)
operated e p m f entries memory (RegW op) (Integer a) (Function d) w x y h g is = absurd (none-some w is)
operated e p m f entries memory (RegW op) (Pointer a o) v w x y h g is = absurd (none-some w is)
operated e p m f entries memory (RegW op) (Function c) v w x y h g is = absurd (none-some w is)
operated e p m f entries memory (Compare on k) u v w x y h g is =
    values_compared e p m f entries memory on k w x y u v h g (in_place k u) (in_place k v) refl refl is
