-- What the code of a call's arguments does: each comes to where the calling convention has it, and all that stands elsewhere stays.
use Rattle.std.proofs.Common.{nat_le, ◌≡◌, ◌≢◌, ℕ, zero, suc, ◌+◌, ◌-◌, ◌*◌, ◌%◌, ◌^◌, ◌<◌, ◌≤◌, Bool, true, false, List, [], ◌∷◌, ◌++◌, refl, ◌∙◌, ap, subst, arith, ◌||◌, nat_lt, if◌then◌else◌, length, slice_get, Some}
use Rattle.bits.specs.Words.{sign_extended}
use Rattle.abi_frames.proofs.Shared.{Class, W, L, State, Location, InRegister, Slot, Operand, At, Number, Name, Argument, list_all, and_parts, nat_tests, number_at, stored, is_place, operand_keeps}
use Rattle.rv_isa.proofs.MemoryLemmas.{number_same, stored_below, stored_above, read_back}
use Rattle.flat_code.specs.Step.{taken}
use Rattle.abi_frames.specs.Performs.{passed}
use Rattle.operation_code.specs.Constants.{store_8}
use Rattle.abi_frames.specs.Emission.{word_into, passed_class, pass_into, stack_items, stack_all, register_items, register_all}
use Rattle.operation_code.proofs.Leading.{Leads, leads_nowhere, Sets, IsReg}
use Rattle.abi_frames.proofs.Leads.{leads_on, leads_as}
use Rattle.abi_frames.proofs.StackAccesses.{Writes, leads_store, near_address, is_2, is_28}
use Rattle.abi_frames.proofs.Activations.{Setting, IsSetting, site, bottom, slot_at, operand_in, place_is, in_frame}
use Rattle.abi_frames.proofs.LineCode.{leads_into, leads_word_into}

-- ---- what arguments are

-- what an argument is passed as
abbrev pub sent : Setting → State → Argument Location → ℕ
sent c s a = passed (passed_class a.extension a.class) (taken (passed_class a.extension a.class) (operand_in c s a.value))

abbrev pub in_place : (slots : ℕ) → Argument Location → Bool
in_place slots a = operand_keeps (is_place slots) a.value

-- places are as they were: registers, and the frame from the saved registers upward
pub record Kept (c : Setting) (s u : State) : Type 0 where
  pub registers : (n : ℕ) → n ≤ 27 → u.registers n ≡ s.registers n
  pub bytes : (x : ℕ) → bottom c + c.layout.saves ≤ x → u.bytes x ≡ s.bytes x

pub slot_kept : (c : Setting) → IsSetting c → (s u : State) (i : ℕ) → ((x : ℕ) → bottom c + c.layout.saves ≤ x → u.bytes x ≡ s.bytes x)
    → number_at u.bytes (slot_at c i) 8 ≡ number_at s.bytes (slot_at c i) 8
slot_kept c is s u i same =
    let saves = is.saves_fit in
    number_same u.bytes s.bytes (slot_at c i) 8 (λ x lo hi. same x (omega (arith, lo, saves)))

pub operand_kept : (c : Setting) → IsSetting c → (s u : State) (a : Operand Location) → Kept c s u → operand_keeps (is_place c.slots) a ≡ true
    → operand_in c u a ≡ operand_in c s a
operand_kept c is s u (At (InRegister r)) h good = h.registers r (place_is c.slots r good).to_27
operand_kept c is s u (At (Slot i)) h good = slot_kept c is s u i h.bytes
operand_kept c is s u (Number n) h good = refl
operand_kept c is s u (Name g) h good = refl

pub sent_kept : (c : Setting) → IsSetting c → (s u : State) (a : Argument Location) → Kept c s u → in_place c.slots a ≡ true → sent c u a ≡ sent c s a
sent_kept c is s u a h good = ap (λ v. passed (passed_class a.extension a.class) (taken (passed_class a.extension a.class) v)) (operand_kept c is s u a.value h good)

pub each : (p : Argument Location → Bool) (xs : List (Argument Location)) (i : ℕ) (x : Argument Location) → list_all p xs ≡ true → slice_get xs i ≡ Some x → p x ≡ true
each p [] i x h e = absurd (let no : ⊥ = cc in no)
each p (y ∷ xs) zero x h e = ap p (same x y e) ∙ (and_parts (p y) (list_all p xs) h).0
  where
    same : (a b : Argument Location) → Some b ≡ Some a → a ≡ b
    same a b e = cc
each p (y ∷ xs) (suc i) x h e = each p xs i x (and_parts (p y) (list_all p xs) h).1 e

length-more : (a : Argument Location) (args : List (Argument Location)) → length (a ∷ args) ≡ length args + 1
length-more a args = omega arith

word_again : (v : ℕ) → v % 2 ^ 32 ≡ v % 2 ^ 32 % 2 ^ 32
word_again v = omega arith

pub leads_argument : (c : Setting) → IsSetting c → (s : State) (d : ℕ) (k : Class) (a : Operand Location) → IsReg d → d ≢ 2 → s.registers 2 ≡ bottom c
    → operand_keeps (is_place c.slots) a ≡ true
    → Leads (site c) (pass_into c.layout d k a) s (Sets s d (passed k (taken k (operand_in c s a))))
leads_argument c is s d L a reg other pointer known = leads_into c is s d a reg other pointer known
leads_argument c is s d W a reg other pointer known =
    let v : ℕ = operand_in c s a in
    subst (λ x. Leads (site c) (word_into c.layout d a) s (Sets s d x)) (ap sign_extended (word_again v))
    (leads_word_into c is s d a reg other pointer known)

one_argument : (i : ℕ) (a b : Argument Location) → slice_get (a ∷ []) i ≡ Some b → (i ≡ 0) × (a ≡ b)
one_argument zero a b e = (refl, same a b e)
  where
    same : (x y : Argument Location) → Some x ≡ Some y → x ≡ y
    same x y e = cc
one_argument (suc i) a b e = absurd (let no : ⊥ = cc in no)

-- ---- arguments from the k-th on are on the stack where they are to be

pub record Stacked (c : Setting) (s : State) (k : ℕ) (args : List (Argument Location)) (u : State) : Type 0 where
  pub on_stack : (i : ℕ) (a : Argument Location) → 8 ≤ k + i → slice_get args i ≡ Some a
      → number_at u.bytes (bottom c + 8 * (k + i - 8)) 8 ≡ sent c s a
  pub registers : (n : ℕ) → n ≢ 28 → n ≢ 29 → u.registers n ≡ s.registers n
  pub below : (x : ℕ) → x < bottom c + 8 * (k - 8) → u.bytes x ≡ s.bytes x
  pub above : (x : ℕ) → bottom c + 8 * (k + length args - 8) ≤ x → u.bytes x ≡ s.bytes x
  pub output : u.output ≡ s.output

pub stacked_keeps : (c : Setting) (s : State) (k : ℕ) (args : List (Argument Location)) (u : State) → 8 * (k + length args - 8) ≤ c.layout.saves
    → Stacked c s k args u → Kept c s u
stacked_keeps c s k args u fits h = record {
  registers = λ n low. h.registers n (λ e. absurd (omega (arith, e, low))) (λ e. absurd (omega (arith, e, low)));
  bytes = λ x hi. h.above x (omega (arith, hi, fits));
}

to_stack : (c : Setting) (s : State) (k : ℕ) (a : Argument Location) (u w : State) → 8 ≤ k → sent c s a < 2 ^ 64 → Sets s 28 (sent c s a) u
    → Writes u (bottom c + 8 * (k - 8)) (u.registers 28) w → Stacked c s k (a ∷ []) w
to_stack c s k a u w many small one two =
    let at : ℕ = bottom c + 8 * (k - 8) in
    let v : ℕ = sent c s a in
    let bytes : w.bytes ≡ stored s.bytes at 8 v =
    two.bytes ∙ (ap (λ (m : ℕ → ℕ). stored m at 8 (u.registers 28)) one.bytes ∙ ap (stored s.bytes at 8) one.value) in
    record {
      on_stack = λ i b hi e.
          let the = one_argument i a b e in
          let first = the.0 in
          let here : bottom c + 8 * (k + i - 8) ≡ at = omega (arith, first) in
          ap (λ x. number_at w.bytes x 8) here
          ∙ (ap (λ (m : ℕ → ℕ). number_at m at 8) bytes ∙ (read_back s.bytes at 8 v small ∙ ap (sent c s) the.1));
      registers = λ n other scratch. two.registers n scratch ∙ one.others n other;
      below = λ x lo. ap (λ (m : ℕ → ℕ). m x) bytes ∙ stored_below s.bytes at 8 v x lo;
      above = λ x hi. ap (λ (m : ℕ → ℕ). m x) bytes ∙ stored_above s.bytes at 8 v x (omega (arith, hi, many));
      output = two.output ∙ one.output;
    }

leads_stacked : (c : Setting) → IsSetting c → (s : State) (k : ℕ) (a : Argument Location) → s.registers 2 ≡ bottom c
    → in_place c.slots a ≡ true → 8 * (k + 1 - 8) ≤ c.layout.saves
    → Leads (site c) (stack_items c.layout k a) s (Stacked c s k (a ∷ []))
leads_stacked c is s k a pointer known fits = by_test (nat_lt k 8) refl
  where
    near : ℕ
    near = 8 * (k - 8)

    by_test : (t : Bool) → nat_lt k 8 ≡ t
        → Leads (site c) (if t then [] else pass_into c.layout 28 (passed_class a.extension a.class) a.value ++ (store_8 28 2 near ∷ [])) s (Stacked c s k (a ∷ []))
    by_test true e =
        let few : k < 8 = grind (arith, nat_tests) in
        leads_nowhere (site c) s (Stacked c s k (a ∷ []))
        (record {
          on_stack = λ i b hi g. let first = (one_argument i a b g).0 in absurd (omega (arith, first, hi, few));
          registers = λ n other scratch. refl;
          below = λ x lo. refl;
          above = λ x hi. refl;
          output = refl;
        })
    by_test false e =
        let many : 8 ≤ k = grind (arith, nat_tests) in
        let saves = is.saves_fit in
        let near_saves = is.saves_near in
        let frame = is.fits in
        let inside = in_frame c is (8 * (k - 8)) (omega (arith, many, fits, saves, frame)) in
        leads_on (leads_argument c is s 28 (passed_class a.extension a.class) a.value is_28 (λ e. absurd (omega (arith, e))) pointer known)
        (λ u f one.
        let small : sent c s a < 2 ^ 64 = subst (λ x. x < 2 ^ 64) one.value (f.words 28) in
        let at_u : u.registers 2 ≡ bottom c = one.others 2 (λ e. absurd (omega (arith, e))) ∙ pointer in
        leads_as (leads_store (site c) u 28 2 near (bottom c + near) is_28 is_2 f
        (near_address (u.registers 2) (bottom c) near at_u (omega (arith, many, fits, near_saves)) inside.small) inside.usable)
        (λ w g two. to_stack c s k a u w many small one two))

stack_more : (c : Setting) → IsSetting c → (s u w : State) (k : ℕ) (a : Argument Location) (args : List (Argument Location)) → Kept c s u
    → list_all (in_place c.slots) args ≡ true → Stacked c s k (a ∷ []) u → Stacked c u (k + 1) args w
    → (i : ℕ) (b : Argument Location) → 8 ≤ k + i → slice_get (a ∷ args) i ≡ Some b → number_at w.bytes (bottom c + 8 * (k + i - 8)) 8 ≡ sent c s b
stack_more c is s u w k a args same good one two zero b many e =
    number_same w.bytes u.bytes (bottom c + 8 * (k + zero - 8)) 8 (λ x lo hi. two.below x (omega (arith, hi, many))) ∙ one.on_stack zero b many e
stack_more c is s u w k a args same good one two (suc i) b many e =
    let here : bottom c + 8 * (k + suc i - 8) ≡ bottom c + 8 * (k + 1 + i - 8) = omega arith in
    ap (λ x. number_at w.bytes x 8) here
    ∙ (two.on_stack i b (omega (arith, many)) e ∙ sent_kept c is s u b same (each (in_place c.slots) args i b good e))

pub leads_stack : (c : Setting) → IsSetting c → (s : State) (k : ℕ) (args : List (Argument Location)) → s.registers 2 ≡ bottom c
    → list_all (in_place c.slots) args ≡ true → 8 * (k + length args - 8) ≤ c.layout.saves
    → Leads (site c) (stack_all c.layout k args) s (Stacked c s k args)
leads_stack c is s k [] pointer good fits =
    leads_nowhere (site c) s (Stacked c s k [])
    (record {
      on_stack = λ i a many e. absurd (let no : ⊥ = cc in no);
      registers = λ n other scratch. refl;
      below = λ x lo. refl;
      above = λ x hi. refl;
      output = refl;
    })
leads_stack c is s k (a ∷ args) pointer good fits =
    let parts = and_parts (in_place c.slots a) (list_all (in_place c.slots) args) good in
    let more = length-more a args in
    let alone = length-more a [] in
    let here : 8 * (k + 1 - 8) ≤ c.layout.saves = omega (arith, fits, more) in
    leads_on (leads_stacked c is s k a pointer parts.0 here)
    (λ u f one.
    let same = stacked_keeps c s k (a ∷ []) u here one in
    leads_as (leads_stack c is u (k + 1) args (one.registers 2 (λ e. absurd (omega (arith, e))) (λ e. absurd (omega (arith, e))) ∙ pointer) parts.1 (omega (arith, fits, more)))
    (λ w g two. record {
      on_stack = stack_more c is s u w k a args same parts.1 one two;
      registers = λ n other scratch. two.registers n other scratch ∙ one.registers n other scratch;
      below = λ x lo. two.below x (omega (arith, lo)) ∙ one.below x lo;
      above = λ x hi. two.above x (omega (arith, hi, more)) ∙ one.above x (omega (arith, hi, more, alone));
      output = two.output ∙ one.output;
    }))

-- ---- arguments from the k-th on are in the registers where they are to be

pub record Registered (c : Setting) (s : State) (k : ℕ) (args : List (Argument Location)) (u : State) : Type 0 where
  pub in_registers : (i : ℕ) (a : Argument Location) → k + i < 8 → slice_get args i ≡ Some a → u.registers (10 + (k + i)) ≡ sent c s a
  pub before : (n : ℕ) → n < 10 + k → u.registers n ≡ s.registers n
  pub high : (n : ℕ) → 17 < n → u.registers n ≡ s.registers n
  pub bytes : u.bytes ≡ s.bytes
  pub output : u.output ≡ s.output

-- one of them
record Has (c : Setting) (s : State) (k : ℕ) (a : Argument Location) (u : State) : Type 0 where
  value : k < 8 → u.registers (10 + k) ≡ sent c s a
  others : (n : ℕ) → n ≢ 10 + k → u.registers n ≡ s.registers n
  high : (n : ℕ) → 17 < n → u.registers n ≡ s.registers n
  bytes : u.bytes ≡ s.bytes
  output : u.output ≡ s.output

leads_has : (c : Setting) → IsSetting c → (s : State) (k : ℕ) (a : Argument Location) → s.registers 2 ≡ bottom c → in_place c.slots a ≡ true
    → Leads (site c) (register_items c.layout k a) s (Has c s k a)
leads_has c is s k a pointer known = by_test (nat_lt k 8) refl
  where
    by_test : (t : Bool) → nat_lt k 8 ≡ t → Leads (site c) (if t then pass_into c.layout (10 + k) (passed_class a.extension a.class) a.value else []) s (Has c s k a)
    by_test true e =
        let few : k < 8 = grind (arith, nat_tests) in
        let is_d : IsReg (10 + k) = record { some = omega arith; small = omega (arith, few) } in
        leads_as (leads_argument c is s (10 + k) (passed_class a.extension a.class) a.value is_d (λ e. absurd (omega (arith, e))) pointer known)
        (λ u f h. record {
          value = λ low. h.value;
          others = h.others;
          high = λ n hi. h.others n (λ e. absurd (omega (arith, e, hi, few)));
          bytes = h.bytes;
          output = h.output;
        })
    by_test false e =
        let many : 8 ≤ k = grind (arith, nat_tests) in
        leads_nowhere (site c) s (Has c s k a)
        (record {
          value = λ low. absurd (omega (arith, low, many));
          others = λ n other. refl;
          high = λ n hi. refl;
          bytes = refl;
          output = refl;
        })

-- a place that the first k arguments of a call are not passed in
abbrev pub is_behind : (k : ℕ) → Location → Bool
is_behind k (InRegister r) = nat_lt r 10 || (nat_le (10 + k) r || nat_lt 17 r)
is_behind k (Slot i) = true

-- no one of these arguments, the first of which is the k-th, is in the register of an earlier one
abbrev pub InOrder : (k : ℕ) → List (Argument Location) → Type 0
InOrder k args = (i : ℕ) (a : Argument Location) → k + i < 8 → slice_get args i ≡ Some a → operand_keeps (is_behind (k + i)) a.value ≡ true

register_left : (s u : State) (k j : ℕ) → ((n : ℕ) → n ≢ 10 + k → u.registers n ≡ s.registers n) → k < j → j < 8 → (r : ℕ) → is_behind j (InRegister r) ≡ true
    → u.registers r ≡ s.registers r
register_left s u k j others later few r behind = others r (λ e. absurd (by_test (nat_lt r 10) refl (nat_le (10 + j) r) refl (nat_lt 17 r) refl behind e))
  where
    by_test : (a : Bool) → nat_lt r 10 ≡ a → (b : Bool) → nat_le (10 + j) r ≡ b → (d : Bool) → nat_lt 17 r ≡ d → (a || (b || d)) ≡ true → r ≡ 10 + k → ⊥
    by_test true e b f d g z h = let low : r < 10 = grind (arith, nat_tests) in omega (arith, low, h)
    by_test false e true f d g z h = let from : 10 + j ≤ r = grind (arith, nat_tests) in omega (arith, from, later, h)
    by_test false e false f true g z h = let hi : 17 < r = grind (arith, nat_tests) in omega (arith, hi, h, later, few)
    by_test false e false f false g z h = let no : ⊥ = cc in no

operand_left : (c : Setting) → IsSetting c → (s u : State) (k j : ℕ) (x : Argument Location) → Has c s k x u → k < j → j < 8 → (a : Operand Location)
    → operand_keeps (is_behind j) a ≡ true → operand_in c u a ≡ operand_in c s a
operand_left c is s u k j x h later few (At (InRegister r)) behind = register_left s u k j h.others later few r behind
operand_left c is s u k j x h later few (At (Slot i)) behind = slot_kept c is s u i (λ x hi. ap (λ (m : ℕ → ℕ). m x) h.bytes)
operand_left c is s u k j x h later few (Number n) behind = refl
operand_left c is s u k j x h later few (Name g) behind = refl

registers_more : (c : Setting) → IsSetting c → (s u w : State) (k : ℕ) (a : Argument Location) (args : List (Argument Location)) → InOrder k (a ∷ args)
    → Has c s k a u → Registered c u (k + 1) args w
    → (i : ℕ) (b : Argument Location) → k + i < 8 → slice_get (a ∷ args) i ≡ Some b → w.registers (10 + (k + i)) ≡ sent c s b
registers_more c is s u w k a args order one two zero b few e =
    let here : 10 + (k + zero) ≡ 10 + k = omega arith in
    two.before (10 + (k + zero)) (omega arith) ∙ (ap u.registers here ∙ (one.value (omega (arith, few)) ∙ ap (sent c s) (same a b e)))
  where
    same : (x y : Argument Location) → Some x ≡ Some y → x ≡ y
    same x y e = cc
registers_more c is s u w k a args order one two (suc i) b few e =
    let here : 10 + (k + suc i) ≡ 10 + (k + 1 + i) = omega arith in
    ap w.registers here
    ∙ (two.in_registers i b (omega (arith, few)) e
    ∙ ap (λ v. passed (passed_class b.extension b.class) (taken (passed_class b.extension b.class) v)) (operand_left c is s u k (k + suc i) a one (omega arith) few b.value (order (suc i) b few e)))

order_more : (k : ℕ) (a : Argument Location) (args : List (Argument Location)) → InOrder k (a ∷ args) → InOrder (k + 1) args
order_more k a args order i b few e =
    let here : k + suc i ≡ k + 1 + i = omega arith in
    subst (λ n. operand_keeps (is_behind n) b.value ≡ true) here (order (suc i) b (omega (arith, few)) e)

pub leads_registers : (c : Setting) → IsSetting c → (s : State) (k : ℕ) (args : List (Argument Location)) → s.registers 2 ≡ bottom c
    → list_all (in_place c.slots) args ≡ true → InOrder k args → Leads (site c) (register_all c.layout k args) s (Registered c s k args)
leads_registers c is s k [] pointer good order =
    leads_nowhere (site c) s (Registered c s k [])
    (record {
      in_registers = λ i a few e. absurd (let no : ⊥ = cc in no);
      before = λ n lo. refl;
      high = λ n hi. refl;
      bytes = refl;
      output = refl;
    })
leads_registers c is s k (a ∷ args) pointer good order =
    let parts = and_parts (in_place c.slots a) (list_all (in_place c.slots) args) good in
    leads_on (leads_has c is s k a pointer parts.0)
    (λ u f one.
    leads_as (leads_registers c is u (k + 1) args (one.others 2 (λ e. absurd (omega (arith, e))) ∙ pointer) parts.1 (order_more k a args order))
    (λ w g two. record {
      in_registers = registers_more c is s u w k a args order one two;
      before = λ n lo. two.before n (omega (arith, lo)) ∙ one.others n (λ e. absurd (omega (arith, e, lo)));
      high = λ n hi. two.high n hi ∙ one.high n hi;
      bytes = two.bytes ∙ one.bytes;
      output = two.output ∙ one.output;
    }))
