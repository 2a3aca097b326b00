-- What the moves up do: whatever an argument is passed as, it still is from where it then stands, and none stands in the register of an earlier one.
use Rattle.std.proofs.Common.{nat_le, ◌≡◌, ◌≢◌, ℕ, zero, suc, ◌+◌, ◌<◌, ◌≤◌, Bool, true, false, List, [], ◌∷◌, refl, sym, ◌∙◌, ap, arith, lit<, zero-add, ◌&&◌, ◌||◌, nat_eq, nat_lt, if◌then◌else◌, map, length, slice_get, Option, Some, None}
use Rattle.std.proofs.lemmas.Option.{slice_get-map}
use Rattle.abi_frames.proofs.Shared.{State, Location, InRegister, Slot, Operand, At, Number, Name, Argument, option_map, list_all, and_parts, and_from, eqb-true, eqb-false, or_parts, both_ways, slice_get_within, same_Some, none-some, nat_tests, is_place, operand_keeps}
use Rattle.flat_code.specs.Step.{taken}
use Rattle.abi_frames.specs.Performs.{passed}
use Rattle.operation_code.specs.Constants.{add_low}
use Rattle.abi_frames.specs.Moves.{exchanged, operand_exchanged, argument_exchanged, exchange, is_in, is_read, settled, arrived, earlier, earlier_in, earlier_at, move_up, moves_up, moved_up, all_move_up, all_moved_up}
use Rattle.abi_frames.specs.Emission.{passed_class, passed_items}
use Rattle.operation_code.proofs.ConstantNumbers.{near_moves}
use Rattle.operation_code.proofs.Leading.{Site, Leads, leads_nowhere, Sets, IsReg, register_reg}
use Rattle.abi_frames.proofs.Leads.{leads_on, leads_as, leads_where}
use Rattle.operation_code.proofs.Instructions.{leads_add_low}
use Rattle.abi_frames.proofs.Activations.{Setting, IsSetting, site, bottom, value_at, operand_in, place_is}
use Rattle.abi_frames.proofs.Passing.{sent, in_place, is_behind, InOrder, leads_registers}
use Rattle.il_ast.proofs.Wrapping.{same_low}

-- ---- one move

pub leads_copy : (c : Site) (s : State) (d a : ℕ) → IsReg d → IsReg a → Leads c (add_low d a 0 ∷ []) s (Sets s d (s.registers a))
leads_copy c s d a is is_a =
    leads_where (λ fixed.
    leads_add_low c s d a 0 (s.registers a) (s.registers a) is (register_reg s a is_a)
    (near_moves (s.registers a) 0 (lit< tt) ∙ same_low (s.registers a) (fixed.words a)))

is_29 : IsReg 29
is_29 = record { some = lit< tt; small = lit< tt }

-- two registers have changed places, by way of x29
record Exchanged (s : State) (a b : ℕ) (u : State) : Type 0 where
  first : u.registers a ≡ s.registers b
  second : u.registers b ≡ s.registers a
  others : (n : ℕ) → n ≢ a → n ≢ b → n ≢ 29 → u.registers n ≡ s.registers n
  bytes : u.bytes ≡ s.bytes
  output : u.output ≡ s.output

changed : (s t u w : State) (a b : ℕ) → a ≢ 29 → b ≢ 29 → a ≢ b → Sets s 29 (s.registers a) t → Sets t a (t.registers b) u → Sets u b (u.registers 29) w
    → Exchanged s a b w
changed s t u w a b not_a not_b apart one two three = record {
  first = three.others a apart ∙ (two.value ∙ one.others b not_b);
  second = three.value ∙ (two.others 29 (λ e. not_a (sym e)) ∙ one.value);
  others = λ n x y z. three.others n y ∙ (two.others n x ∙ one.others n z);
  bytes = three.bytes ∙ (two.bytes ∙ one.bytes);
  output = three.output ∙ (two.output ∙ one.output);
}

leads_move_up : (c : Site) (s : State) (k r : ℕ) → k < 8 → 10 ≤ r → r < 10 + k → Leads c (move_up k r true) s (Exchanged s (10 + k) r)
leads_move_up c s k r few lo hi =
    let to : IsReg (10 + k) = record { some = omega arith; small = omega (arith, few) } in
    let from : IsReg r = record { some = omega (arith, lo); small = omega (arith, hi, few) } in
    leads_on (leads_copy c s 29 (10 + k) is_29 to)
    (λ t f one.
    leads_on (leads_copy c t (10 + k) r to from)
    (λ u g two.
    leads_as (leads_copy c u r 29 from is_29)
    (λ w h three.
    changed s t u w (10 + k) r (λ e. absurd (omega (arith, e, few))) (λ e. absurd (omega (arith, e, hi, few))) (λ e. absurd (omega (arith, e, hi))) one two three)))

-- ---- what places then hold

eq_self : (a b : ℕ) → a ≡ b → nat_eq b a ≡ true
eq_self a b e = grind (arith, nat_tests)

register_moved : (s u : State) (a b r : ℕ) → Exchanged s a b u → r ≤ 27 → u.registers (if nat_eq r a then b else if nat_eq r b then a else r) ≡ s.registers r
register_moved s u a b r h low = by_test (nat_eq r a) refl (nat_eq r b) refl
  where
    by_test : (p : Bool) → nat_eq r a ≡ p → (q : Bool) → nat_eq r b ≡ q → u.registers (if p then b else if q then a else r) ≡ s.registers r
    by_test true e q f = h.second ∙ ap s.registers (sym (eqb-true r a e))
    by_test false e true f = h.first ∙ ap s.registers (sym (eqb-true r b f))
    by_test false e false f = h.others r (eqb-false r a e) (eqb-false r b f) (λ g. absurd (omega (arith, g, low)))

operand_moved : (c : Setting) (s u : State) (a b : ℕ) (x : Operand Location) → Exchanged s a b u → operand_keeps (is_place c.slots) x ≡ true
    → operand_in c u (operand_exchanged a b x) ≡ operand_in c s x
operand_moved c s u a b (At (InRegister r)) h good = register_moved s u a b r h (place_is c.slots r good).to_27
operand_moved c s u a b (At (Slot i)) h good = ap (λ (m : ℕ → ℕ). value_at c (record s { bytes = m }) (Slot i)) h.bytes
operand_moved c s u a b (Number n) h good = refl
operand_moved c s u a b (Name g) h good = refl

arguments_moved : (c : Setting) (s u : State) (a b : ℕ) (args : List (Argument Location)) → Exchanged s a b u
    → list_all (in_place c.slots) args ≡ true → map (sent c u) (exchange a b args) ≡ map (sent c s) args
arguments_moved c s u a b [] h good = refl
arguments_moved c s u a b (x ∷ args) h good =
    let parts = and_parts (in_place c.slots x) (list_all (in_place c.slots) args) good in
    let first : sent c u (argument_exchanged a b x) ≡ sent c s x =
    ap (λ v. passed (passed_class x.extension x.class) (taken (passed_class x.extension x.class) v)) (operand_moved c s u a b x.value h parts.0) in
    ap (λ v. v ∷ map (sent c u) (exchange a b args)) first ∙ ap (λ l. sent c s x ∷ l) (arguments_moved c s u a b args h parts.1)

-- one argument comes to its register, which no one reads
operand_unread : (c : Setting) (s u : State) (to v : ℕ) (x : Operand Location) → Sets s to v u → is_in to x ≡ false → operand_in c u x ≡ operand_in c s x
operand_unread c s u to v (At (InRegister r)) h unread = h.others r (λ e. absurd (both_ways (nat_eq to r) unread (eq_self r to e)))
operand_unread c s u to v (At (Slot i)) h unread = ap (λ (m : ℕ → ℕ). value_at c (record s { bytes = m }) (Slot i)) h.bytes
operand_unread c s u to v (Number n) h unread = refl
operand_unread c s u to v (Name g) h unread = refl

sent_unread : (c : Setting) (s u : State) (to v : ℕ) (x : Argument Location) → Sets s to v u → is_in to x.value ≡ false → sent c u x ≡ sent c s x
sent_unread c s u to v x h unread = ap (λ n. passed (passed_class x.extension x.class) (taken (passed_class x.extension x.class) n)) (operand_unread c s u to v x.value h unread)

all_unread : (c : Setting) (s u : State) (to v : ℕ) (args : List (Argument Location)) → Sets s to v u → is_read to args ≡ false
    → map (sent c u) args ≡ map (sent c s) args
all_unread c s u to v [] h unread = refl
all_unread c s u to v (x ∷ args) h unread =
    let parts = or_parts (is_in to x.value) (is_read to args) unread in
    ap (λ n. n ∷ map (sent c u) args) (sent_unread c s u to v x h parts.0) ∙ ap (λ l. sent c s x ∷ l) (all_unread c s u to v args h parts.1)

arguments_settled : (c : Setting) (s u : State) (to r k : ℕ) (args : List (Argument Location)) (a : Argument Location) → Sets s to (s.registers r) u
    → is_read to args ≡ false → slice_get args k ≡ Some a → a.value ≡ At (InRegister r) → map (sent c u) (settled to k args) ≡ map (sent c s) args
arguments_settled c s u to r k [] a h unread is there = absurd (let no : ⊥ = cc in no)
arguments_settled c s u to r zero (x ∷ args) a h unread is there =
    let parts = or_parts (is_in to x.value) (is_read to args) unread in
    let value : x.value ≡ At (InRegister r) = ap (λ (y : Argument Location). y.value) (same x a is) ∙ there in
    let first : u.registers to ≡ operand_in c s x.value = h.value ∙ sym (ap (operand_in c s) value) in
    ap (λ n. passed (passed_class x.extension x.class) (taken (passed_class x.extension x.class) n) ∷ map (sent c u) args) first ∙ ap (λ l. sent c s x ∷ l) (all_unread c s u to (s.registers r) args h parts.1)
  where
    same : (p q : Argument Location) → Some p ≡ Some q → p ≡ q
    same p q e = cc
arguments_settled c s u to r (suc k) (x ∷ args) a h unread is there =
    let parts = or_parts (is_in to x.value) (is_read to args) unread in
    ap (λ n. n ∷ map (sent c u) (settled to k args)) (sent_unread c s u to (s.registers r) x h parts.0)
    ∙ ap (λ l. sent c s x ∷ l) (arguments_settled c s u to r k args a h parts.1 is there)

-- ---- registers below the argument's

pub record IsEarlier (k : ℕ) (args : List (Argument Location)) (r : ℕ) : Type 0 where
  pub few : k < 8
  pub from : 10 ≤ r
  pub below : r < 10 + k
  pub argument : Argument Location
  pub is : slice_get args k ≡ Some argument
  pub there : argument.value ≡ At (InRegister r)

pub is_earlier : (k : ℕ) (args : List (Argument Location)) (r : ℕ) → earlier_at k args ≡ Some r → IsEarlier k args r
is_earlier k args r h = by_few (nat_lt k 8) refl h
  where
    by_range : (a : Argument Location) → k < 8 → slice_get args k ≡ Some a → (q : ℕ) → a.value ≡ At (InRegister q) → (t : Bool) → nat_le 10 q ≡ t
        → (v : Bool) → nat_lt q (10 + k) ≡ v → (if t && v then Some q else None) ≡ Some r → IsEarlier k args r
    by_range a few is q there true e true f g =
        let here = same_Some q r g in
        let lo : 10 ≤ q = grind (arith, nat_tests) in
        let hi : q < 10 + k = grind (arith, nat_tests) in
        record {
          few = few;
          from = omega (arith, lo, here);
          below = omega (arith, hi, here);
          argument = a;
          is = is;
          there = there ∙ ap (λ n. At (InRegister n)) here;
        }
    by_range a few is q there true e false f g = absurd (none-some r g)
    by_range a few is q there false e v f g = absurd (none-some r g)

    by_value : (a : Argument Location) → k < 8 → slice_get args k ≡ Some a → (x : Operand Location) → a.value ≡ x → earlier k x ≡ Some r → IsEarlier k args r
    by_value a few is (At (InRegister q)) there g = by_range a few is q there (nat_le 10 q) refl (nat_lt q (10 + k)) refl g
    by_value a few is (At (Slot i)) there g = absurd (none-some r g)
    by_value a few is (Number n) there g = absurd (none-some r g)
    by_value a few is (Name n) there g = absurd (none-some r g)

    by_argument : k < 8 → (o : Option (Argument Location)) → slice_get args k ≡ o → earlier_in k o ≡ Some r → IsEarlier k args r
    by_argument few None is g = absurd (none-some r g)
    by_argument few (Some a) is g = by_value a few is a.value refl g

    by_few : (t : Bool) → nat_lt k 8 ≡ t → (if t then earlier_in k (slice_get args k) else None) ≡ Some r → IsEarlier k args r
    by_few true e g = by_argument (grind (arith, nat_tests)) (slice_get args k) refl g
    by_few false e g = absurd (none-some r g)

-- one that isn't in an earlier register stays
not_earlier : (k : ℕ) (x : Operand Location) → earlier k x ≡ None → operand_keeps (is_behind k) x ≡ true
not_earlier k (At (InRegister r)) h = by_range (nat_le 10 r) refl (nat_lt r (10 + k)) refl h (nat_lt r 10) refl (nat_le (10 + k) r) refl
  where
    by_range : (t : Bool) → nat_le 10 r ≡ t → (v : Bool) → nat_lt r (10 + k) ≡ v → (if t && v then Some r else None) ≡ None
        → (a : Bool) → nat_lt r 10 ≡ a → (b : Bool) → nat_le (10 + k) r ≡ b → (a || (b || nat_lt 17 r)) ≡ true
    by_range t e v f g true x b y = refl
    by_range t e v f g false x true y = refl
    by_range true e true f g false x false y = absurd (let no : ⊥ = cc in no)
    by_range true e false f g false x false y = absurd (let no : ⊥ = grind (arith, nat_tests) in no)
    by_range false e v f g false x false y = absurd (let no : ⊥ = grind (arith, nat_tests) in no)
not_earlier k (At (Slot i)) h = refl
not_earlier k (Number n) h = refl
not_earlier k (Name g) h = refl

-- ---- where arguments then stand

place_exchanged : (slots a b : ℕ) (p : Location) → is_place slots (InRegister a) ≡ true → is_place slots (InRegister b) ≡ true → is_place slots p ≡ true
    → is_place slots (exchanged a b p) ≡ true
place_exchanged slots a b (InRegister r) good_a good_b good = by_test (nat_eq r a) (nat_eq r b)
  where
    by_test : (p q : Bool) → is_place slots (InRegister (if p then b else if q then a else r)) ≡ true
    by_test true q = good_b
    by_test false true = good_a
    by_test false false = good
place_exchanged slots a b (Slot i) good_a good_b good = good

operand_stands : (slots a b : ℕ) (x : Operand Location) → is_place slots (InRegister a) ≡ true → is_place slots (InRegister b) ≡ true
    → operand_keeps (is_place slots) x ≡ true → operand_keeps (is_place slots) (operand_exchanged a b x) ≡ true
operand_stands slots a b (At p) good_a good_b good = place_exchanged slots a b p good_a good_b good
operand_stands slots a b (Number n) good_a good_b good = refl
operand_stands slots a b (Name g) good_a good_b good = refl

arguments_stand : (slots a b : ℕ) (args : List (Argument Location)) → is_place slots (InRegister a) ≡ true → is_place slots (InRegister b) ≡ true
    → list_all (in_place slots) args ≡ true → list_all (in_place slots) (exchange a b args) ≡ true
arguments_stand slots a b [] good_a good_b good = refl
arguments_stand slots a b (x ∷ args) good_a good_b good =
    let parts = and_parts (in_place slots x) (list_all (in_place slots) args) good in
    and_from (in_place slots (argument_exchanged a b x)) (list_all (in_place slots) (exchange a b args)) (operand_stands slots a b x.value good_a good_b parts.0)
    (arguments_stand slots a b args good_a good_b parts.1)

settled_stand : (slots n k : ℕ) (args : List (Argument Location)) → is_place slots (InRegister n) ≡ true → list_all (in_place slots) args ≡ true
    → list_all (in_place slots) (settled n k args) ≡ true
settled_stand slots n k [] place good = refl
settled_stand slots n zero (x ∷ args) place good =
    and_from (is_place slots (InRegister n)) (list_all (in_place slots) args) place (and_parts (in_place slots x) (list_all (in_place slots) args) good).1
settled_stand slots n (suc k) (x ∷ args) place good =
    let parts = and_parts (in_place slots x) (list_all (in_place slots) args) good in
    and_from (in_place slots x) (list_all (in_place slots) (settled n k args)) parts.0 (settled_stand slots n k args place parts.1)

is_argument_place : (slots r : ℕ) → 10 ≤ r → r < 18 → is_place slots (InRegister r) ≡ true
is_argument_place slots r lo hi = grind (arith, nat_tests)

one_stands : (slots k : ℕ) (args : List (Argument Location)) (o : Option ℕ) → earlier_at k args ≡ o → list_all (in_place slots) args ≡ true
    → list_all (in_place slots) (moved_up k args o) ≡ true
one_stands slots k args None e good = good
one_stands slots k args (Some r) e good = by_read (is_read (10 + k) args)
  where
    it : IsEarlier k args r
    it = is_earlier k args r e

    to : is_place slots (InRegister (10 + k)) ≡ true
    to = let few = it.few in is_argument_place slots (10 + k) (omega arith) (omega (arith, few))

    by_read : (t : Bool) → list_all (in_place slots) (arrived k r t args) ≡ true
    by_read true =
        let few = it.few in
        let below = it.below in
        arguments_stand slots (10 + k) r args to (is_argument_place slots r it.from (omega (arith, below, few))) good
    by_read false = settled_stand slots (10 + k) k args to good

pub all_stand : (slots k : ℕ) (args : List (Argument Location)) → list_all (in_place slots) args ≡ true → list_all (in_place slots) (all_moved_up k args) ≡ true
all_stand slots zero args good = good
all_stand slots (suc k) args good =
    all_stand slots k (moved_up k args (earlier_at k args)) (one_stands slots k args (earlier_at k args) refl good)

-- ---- their order

-- of the arguments from the k-th on
abbrev OrderedFrom : (k : ℕ) → List (Argument Location) → Type 0
OrderedFrom k args = (i : ℕ) (a : Argument Location) → k ≤ i → i < 8 → slice_get args i ≡ Some a → operand_keeps (is_behind i) a.value ≡ true

record Before (a b : ℕ) (args : List (Argument Location)) (i : ℕ) (y : Argument Location) : Type 0 where
  argument : Argument Location
  is : slice_get args i ≡ Some argument
  after : argument_exchanged a b argument ≡ y

before : (a b : ℕ) (args : List (Argument Location)) (i : ℕ) (y : Argument Location) → slice_get (exchange a b args) i ≡ Some y → Before a b args i y
before a b args i y h = by_argument (slice_get args i) refl (sym (slice_get-map (argument_exchanged a b) args i) ∙ h)
  where
    same : (p q : Argument Location) → Some p ≡ Some q → p ≡ q
    same p q e = cc

    by_argument : (o : Option (Argument Location)) → slice_get args i ≡ o → option_map (argument_exchanged a b) o ≡ Some y → Before a b args i y
    by_argument None e g = absurd (let no : ⊥ = cc in no)
    by_argument (Some x) e g = record { argument = x; is = e; after = same (argument_exchanged a b x) y g }

-- exchanges of earlier registers don't change it
behind_stays : (a b i : ℕ) (x : Operand Location) → 10 ≤ a → a < 10 + i → 10 ≤ b → b < 10 + i → i < 8 → operand_keeps (is_behind i) x ≡ true
    → operand_keeps (is_behind i) (operand_exchanged a b x) ≡ true
behind_stays a b i (At (InRegister r)) from_a to_a from_b to_b few h = by_test (nat_eq r a) refl (nat_eq r b) refl
  where
    out : (q : ℕ) → r ≡ q → 10 ≤ q → q < 10 + i → ⊥
    out q e lo hi = by_part (nat_lt r 10) refl (nat_le (10 + i) r) refl (nat_lt 17 r) refl h
      where
        by_part : (x : Bool) → nat_lt r 10 ≡ x → (y : Bool) → nat_le (10 + i) r ≡ y → (z : Bool) → nat_lt 17 r ≡ z → (x || (y || z)) ≡ true → ⊥
        by_part true f y g z k p = let low : r < 10 = grind (arith, nat_tests) in omega (arith, low, e, lo)
        by_part false f true g z k p = let high : 10 + i ≤ r = grind (arith, nat_tests) in omega (arith, high, e, hi)
        by_part false f false g true k p = let high : 17 < r = grind (arith, nat_tests) in omega (arith, high, e, hi, few)
        by_part false f false g false k p = let no : ⊥ = cc in no

    by_test : (p : Bool) → nat_eq r a ≡ p → (q : Bool) → nat_eq r b ≡ q → is_behind i (InRegister (if p then b else if q then a else r)) ≡ true
    by_test true e q f = absurd (out a (eqb-true r a e) from_a to_a)
    by_test false e true f = absurd (out b (eqb-true r b f) from_b to_b)
    by_test false e false f = h
behind_stays a b i (At (Slot j)) from_a to_a from_b to_b few h = refl
behind_stays a b i (Number n) from_a to_a from_b to_b few h = refl
behind_stays a b i (Name g) from_a to_a from_b to_b few h = refl

-- it comes to its own register
own_register : (k r : ℕ) → 10 ≤ r → r < 10 + k → operand_keeps (is_behind k) (operand_exchanged (10 + k) r (At (InRegister r))) ≡ true
own_register k r lo hi = by_test (nat_eq r (10 + k)) refl (nat_eq r r) refl
  where
    here : (nat_lt (10 + k) 10 || (nat_le (10 + k) (10 + k) || nat_lt 17 (10 + k))) ≡ true
    here = grind (arith, nat_tests)

    by_test : (p : Bool) → nat_eq r (10 + k) ≡ p → (q : Bool) → nat_eq r r ≡ q → is_behind k (InRegister (if p then r else if q then 10 + k else r)) ≡ true
    by_test true e q f = absurd (let no : ⊥ = grind (arith, nat_tests) in no)
    by_test false e true f = here
    by_test false e false f = absurd (let no : ⊥ = grind (arith, nat_tests) in no)

some_argument : (a b : Argument Location) → Some a ≡ Some b → a ≡ b
some_argument a b e = cc

exchange_ordered : (k : ℕ) (args : List (Argument Location)) (r : ℕ) → IsEarlier k args r → OrderedFrom (suc k) args → OrderedFrom k (exchange (10 + k) r args)
exchange_ordered k args r it order i y from few h = by_test (nat_eq i k) refl
  where
    old : Before (10 + k) r args i y
    old = before (10 + k) r args i y h

    by_test : (t : Bool) → nat_eq i k ≡ t → operand_keeps (is_behind i) y.value ≡ true
    by_test true f =
        let same = eqb-true i k f in
        let one : old.argument ≡ it.argument = some_argument old.argument it.argument (sym old.is ∙ (ap (slice_get args) same ∙ it.is)) in
        let value : y.value ≡ operand_exchanged (10 + k) r (At (InRegister r)) =
        ap (λ (x : Argument Location). x.value) (sym old.after) ∙ ap (operand_exchanged (10 + k) r) (ap (λ (x : Argument Location). x.value) one ∙ it.there) in
        ap (λ n. operand_keeps (is_behind n) y.value) same ∙ (ap (operand_keeps (is_behind k)) value ∙ own_register k r it.from it.below)
    by_test false f =
        let other = eqb-false i k f in
        let lo = it.from in
        let hi = it.below in
        ap (λ (x : Argument Location). operand_keeps (is_behind i) x.value) (sym old.after)
        ∙ behind_stays (10 + k) r i old.argument.value (omega arith) (omega (arith, from, other)) lo (omega (arith, from, hi)) few
        (order i old.argument (omega (arith, from, other)) few old.is)

settled_here : (n k : ℕ) (args : List (Argument Location)) (y : Argument Location) → slice_get (settled n k args) k ≡ Some y → y.value ≡ At (InRegister n)
settled_here n k [] y h = absurd (let no : ⊥ = cc in no)
settled_here n zero (a ∷ args) y h = sym (ap (λ (x : Argument Location). x.value) (some_argument (record { class = a.class; value = At (InRegister n); extension = a.extension }) y h))
settled_here n (suc k) (a ∷ args) y h = settled_here n k args y h

settled_other : (n k : ℕ) (args : List (Argument Location)) (i : ℕ) → i ≢ k → slice_get (settled n k args) i ≡ slice_get args i
settled_other n k [] i other = refl
settled_other n zero (a ∷ args) zero other = absurd (other refl)
settled_other n zero (a ∷ args) (suc i) other = refl
settled_other n (suc k) (a ∷ args) zero other = refl
settled_other n (suc k) (a ∷ args) (suc i) other = settled_other n k args i (λ e. absurd (other (ap suc e)))

own_behind : (k : ℕ) → is_behind k (InRegister (10 + k)) ≡ true
own_behind k = grind (arith, nat_tests)

settled_ordered : (k : ℕ) (args : List (Argument Location)) (r : ℕ) → IsEarlier k args r → OrderedFrom (suc k) args → OrderedFrom k (settled (10 + k) k args)
settled_ordered k args r it order i y from few h = by_test (nat_eq i k) refl
  where
    by_test : (t : Bool) → nat_eq i k ≡ t → operand_keeps (is_behind i) y.value ≡ true
    by_test true f =
        let same = eqb-true i k f in
        let at : slice_get (settled (10 + k) k args) k ≡ Some y = ap (slice_get (settled (10 + k) k args)) (sym same) ∙ h in
        ap (λ n. operand_keeps (is_behind n) y.value) same ∙ (ap (operand_keeps (is_behind k)) (settled_here (10 + k) k args y at) ∙ own_behind k)
    by_test false f =
        let other = eqb-false i k f in
        order i y (omega (arith, from, other)) few (sym (settled_other (10 + k) k args i other) ∙ h)

none_ordered : (k : ℕ) (args : List (Argument Location)) → earlier_at k args ≡ None → OrderedFrom (suc k) args → OrderedFrom k args
none_ordered k args e order i a from few is = by_test (nat_eq i k) refl
  where
    here : i ≡ k → earlier k a.value ≡ None
    here same =
        let small : nat_lt k 8 ≡ true = grind (arith, nat_tests) in
        let at : slice_get args k ≡ Some a = ap (slice_get args) (sym same) ∙ is in
        sym (ap (earlier_in k) at) ∙ (sym (ap (λ t. if t then earlier_in k (slice_get args k) else None) small) ∙ e)

    by_test : (t : Bool) → nat_eq i k ≡ t → operand_keeps (is_behind i) a.value ≡ true
    by_test true f =
        let same = eqb-true i k f in
        ap (λ n. operand_keeps (is_behind n) a.value) same ∙ not_earlier k a.value (here same)
    by_test false f = let other = eqb-false i k f in order i a (omega (arith, from, other)) few is

one_ordered : (k : ℕ) (args : List (Argument Location)) (o : Option ℕ) → earlier_at k args ≡ o → OrderedFrom (suc k) args → OrderedFrom k (moved_up k args o)
one_ordered k args None e order = none_ordered k args e order
one_ordered k args (Some r) e order = by_read (is_read (10 + k) args)
  where
    it : IsEarlier k args r
    it = is_earlier k args r e

    by_read : (t : Bool) → OrderedFrom k (arrived k r t args)
    by_read true = exchange_ordered k args r it order
    by_read false = settled_ordered k args r it order

all_ordered : (k : ℕ) (args : List (Argument Location)) → OrderedFrom k args → InOrder 0 (all_moved_up k args)
all_ordered zero args order i a few is =
    ap (λ n. operand_keeps (is_behind n) a.value) (zero-add i) ∙ order i a (omega arith) (omega (arith, few)) is
all_ordered (suc k) args order i a few is =
    all_ordered k (moved_up k args (earlier_at k args)) (one_ordered k args (earlier_at k args) refl order) i a few is

pub in_order : (args : List (Argument Location)) → InOrder 0 (all_moved_up (length args) args)
in_order args = all_ordered (length args) args (λ i a from few is. let within = slice_get_within args i a is in absurd (omega (arith, from, within)))

-- ---- the machine

pub record Arranged (c : Setting) (s : State) (args now : List (Argument Location)) (u : State) : Type 0 where
  pub same : map (sent c u) now ≡ map (sent c s) args
  pub low : (n : ℕ) → n < 10 → u.registers n ≡ s.registers n
  pub high : (n : ℕ) → 17 < n → n ≢ 29 → u.registers n ≡ s.registers n
  pub bytes : u.bytes ≡ s.bytes
  pub output : u.output ≡ s.output

leads_exchange : (c : Setting) (s : State) (k : ℕ) (args : List (Argument Location)) (r : ℕ) → IsEarlier k args r → list_all (in_place c.slots) args ≡ true
    → Leads (site c) (move_up k r true) s (Arranged c s args (exchange (10 + k) r args))
leads_exchange c s k args r it good =
    let few = it.few in
    let from = it.from in
    let below = it.below in
    leads_as (leads_move_up (site c) s k r few from below)
    (λ u f h. record {
      same = arguments_moved c s u (10 + k) r args h good;
      low = λ n lo. h.others n (λ g. absurd (omega (arith, g, lo))) (λ g. absurd (omega (arith, g, lo, from))) (λ g. absurd (omega (arith, g, lo)));
      high = λ n hi other. h.others n (λ g. absurd (omega (arith, g, hi, few))) (λ g. absurd (omega (arith, g, hi, below, few))) other;
      bytes = h.bytes;
      output = h.output;
    })

leads_settled : (c : Setting) (s : State) (k : ℕ) (args : List (Argument Location)) (r : ℕ) → IsEarlier k args r → is_read (10 + k) args ≡ false
    → Leads (site c) (move_up k r false) s (Arranged c s args (settled (10 + k) k args))
leads_settled c s k args r it unread =
    let few = it.few in
    let lo = it.from in
    let hi = it.below in
    let to : IsReg (10 + k) = record { some = omega arith; small = omega (arith, few) } in
    let from : IsReg r = record { some = omega (arith, lo); small = omega (arith, hi, few) } in
    leads_as (leads_copy (site c) s (10 + k) r to from)
    (λ u f h. record {
      same = arguments_settled c s u (10 + k) r k args it.argument h unread it.is it.there;
      low = λ n low. h.others n (λ g. absurd (omega (arith, g, low)));
      high = λ n high other. h.others n (λ g. absurd (omega (arith, g, high, few)));
      bytes = h.bytes;
      output = h.output;
    })

leads_one : (c : Setting) (s : State) (k : ℕ) (args : List (Argument Location)) (o : Option ℕ) → earlier_at k args ≡ o → list_all (in_place c.slots) args ≡ true
    → Leads (site c) (moves_up k args o) s (Arranged c s args (moved_up k args o))
leads_one c s k args None e good =
    leads_nowhere (site c) s (Arranged c s args args)
    (record { same = refl; low = λ n lo. refl; high = λ n hi other. refl; bytes = refl; output = refl })
leads_one c s k args (Some r) e good = by_read (is_read (10 + k) args) refl
  where
    it : IsEarlier k args r
    it = is_earlier k args r e

    by_read : (t : Bool) → is_read (10 + k) args ≡ t → Leads (site c) (move_up k r t) s (Arranged c s args (arrived k r t args))
    by_read true seen = leads_exchange c s k args r it good
    by_read false seen = leads_settled c s k args r it seen

leads_all : (c : Setting) (s : State) (k : ℕ) (args : List (Argument Location)) → list_all (in_place c.slots) args ≡ true
    → Leads (site c) (all_move_up k args) s (Arranged c s args (all_moved_up k args))
leads_all c s zero args good =
    leads_nowhere (site c) s (Arranged c s args args)
    (record { same = refl; low = λ n lo. refl; high = λ n hi other. refl; bytes = refl; output = refl })
leads_all c s (suc k) args good =
    let o : Option ℕ = earlier_at k args in
    let now : List (Argument Location) = moved_up k args o in
    leads_on (leads_one c s k args o refl good)
    (λ u f one.
    leads_as (leads_all c u k now (one_stands c.slots k args o refl good))
    (λ w g two. record {
      same = two.same ∙ one.same;
      low = λ n lo. two.low n lo ∙ one.low n lo;
      high = λ n hi other. two.high n hi other ∙ one.high n hi other;
      bytes = two.bytes ∙ one.bytes;
      output = two.output ∙ one.output;
    }))

-- ---- arguments into their registers

pub record InRegisters (c : Setting) (s : State) (args : List (Argument Location)) (u : State) : Type 0 where
  pub in_registers : (i : ℕ) (a : Argument Location) → i < 8 → slice_get args i ≡ Some a → u.registers (10 + i) ≡ sent c s a
  pub low : (n : ℕ) → n < 10 → u.registers n ≡ s.registers n
  pub high : (n : ℕ) → 17 < n → n ≢ 29 → u.registers n ≡ s.registers n
  pub bytes : u.bytes ≡ s.bytes
  pub output : u.output ≡ s.output

-- the i-th of the arguments that are passed, from where it then is
record StandsNow (c : Setting) (s u : State) (now : List (Argument Location)) (i : ℕ) (a : Argument Location) : Type 0 where
  argument : Argument Location
  is : slice_get now i ≡ Some argument
  value : sent c u argument ≡ sent c s a

stands_now : (c : Setting) (s u : State) (args now : List (Argument Location)) (i : ℕ) (a : Argument Location) → map (sent c u) now ≡ map (sent c s) args
    → slice_get args i ≡ Some a → StandsNow c s u now i a
stands_now c s u args now i a same is =
    by_argument (slice_get now i) refl
    (sym (slice_get-map (sent c u) now i)
    ∙ (ap (λ l. slice_get l i) same ∙ (slice_get-map (sent c s) args i ∙ ap (option_map (sent c s)) is)))
  where
    by_argument : (o : Option (Argument Location)) → slice_get now i ≡ o → option_map (sent c u) o ≡ Some (sent c s a) → StandsNow c s u now i a
    by_argument None e g = absurd (let no : ⊥ = cc in no)
    by_argument (Some x) e g = record { argument = x; is = e; value = same_Some (sent c u x) (sent c s a) g }

pub leads_passed : (c : Setting) → IsSetting c → (s : State) (args : List (Argument Location)) → s.registers 2 ≡ bottom c
    → list_all (in_place c.slots) args ≡ true → Leads (site c) (passed_items c.layout args) s (InRegisters c s args)
leads_passed c is s args pointer good =
    let now : List (Argument Location) = all_moved_up (length args) args in
    leads_on (leads_all c s (length args) args good)
    (λ u f one.
    leads_as (leads_registers c is u 0 now (one.low 2 (lit< tt) ∙ pointer) (all_stand c.slots (length args) args good) (in_order args))
    (λ w g two. record {
      in_registers = λ i a few e.
          let there = stands_now c s u args now i a one.same e in
          let here : 10 + i ≡ 10 + (0 + i) = omega arith in
          ap w.registers here ∙ (two.in_registers i there.argument (omega (arith, few)) there.is ∙ there.value);
      low = λ n lo. two.before n (omega (arith, lo)) ∙ one.low n lo;
      high = λ n hi other. two.high n hi ∙ one.high n hi other;
      bytes = two.bytes ∙ one.bytes;
      output = two.output ∙ one.output;
    }))
