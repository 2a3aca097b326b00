-- A shift or a mask does what the operation by a power of two does, at no higher cost.
use Rattle.std.proofs.Common.{◌≡◌, ℕ, ◌+◌, ◌-◌, ◌*◌, ◌/◌, ◌%◌, ◌^◌, ◌<◌, ◌≤◌, ◌==◌, Bool, true, false, ◌&&◌, nat_eq, nat_lt, if◌then◌else◌, List, Option, Some, None, refl, sym, ◌∙◌, ap, subst, arith, option_and_then, bit_and}
use Rattle.std.specs.Int.{w64, trailing_zeros}
use Rattle.std.proofs.lemmas.Bool.{and_parts}
use Rattle.std.proofs.lemmas.Bool.Decides.{nat_tests}
use Rattle.std.proofs.lemmas.Int.{ints}
use Rattle.std.proofs.lemmas.Nat.{and_mask, mod_below, pow_below, pow_pos}
use Rattle.std.proofs.Math.Nat.{pow-le-pow_right}
use Rattle.std.proofs.Math.Pow.{mod-mod-pow}
use Rattle.bits.specs.Words.{sign_extended}
use Rattle.il_ast.specs.declared.value.Value.{Value}
use Rattle.il_ast.specs.declared.value.Value.TheVariants.{Integer, Pointer, Function}
use Rattle.il_ast.specs.Prelude.{Memory}
use Rattle.rv_isa.specs.Prelude.{unsigned_quotient, unsigned_remainder}
use Rattle.rv_isa.specs.declared.instruction.RegOp.TheVariants.{Add, Sub, Sll, Slt, Sltu, Xor, Srl, Sra, Or, And, Mul, Mulh, Mulhsu, Mulhu, Div, Divu, Rem, Remu}
use Rattle.rv_isa.specs.declared.instruction.RegWOp.TheVariants.{Addw, Subw, Sllw, Srlw, Sraw, Mulw, Divw, Divuw, Remw, Remuw}
use Rattle.vcode.specs.declared.place.Operand.{Operand}
use Rattle.vcode.specs.declared.place.Operand.TheVariants.{At, Number, Name}
use Rattle.vcode.specs.declared.line.Operation.{Operation}
use Rattle.vcode.specs.declared.line.Operation.TheVariants.{Reg, RegW, Compare}
use Rattle.vcode.specs.declared.line.Line.{Line}
use Rattle.vcode.specs.declared.line.Line.TheVariants.{Tick, Set, Operate, Load, Store, Alloc, Blit, Call}
use Rattle.vcode.specs.Prelude.{is_immediate, operand_cost, operation_cost, line_cost, operate, Values, value_of, Gives, act}
use Rattle.propagation.specs.FactTable.{exponent, if_below, by_power, with_operation, by_shift}

-- ---- powers

record IsPower (n k : ℕ) : Type 0 where
  low : k < 64
  is : n ≡ 2 ^ k

power_if : (n k j : ℕ) (b : Bool) → (nat_lt j 64 && nat_eq (2 ^ j) n) ≡ b → (if b then Some j else None) ≡ Some k → IsPower n k
power_if n k j true e h =
    let same : j ≡ k = cc in
    let parts = and_parts (nat_lt j 64) (nat_eq (2 ^ j) n) e in
    subst (IsPower n) same (record { low = (let low = parts.0 in grind (arith, nat_tests)); is = (let at = parts.1 in grind (arith, nat_tests)) })
power_if n k j false e h = absurd (let no : ⊥ = cc in no)

power_of : (n k : ℕ) → exponent n ≡ Some k → IsPower n k
power_of n k h = power_if n k (trailing_zeros w64 n) (nat_lt (trailing_zeros w64 n) 64 && nat_eq (2 ^ trailing_zeros w64 n) n) refl h

mod_small : (a m : ℕ) → a < m → a % m ≡ a
mod_small a m h = grind (arith)

word_power : (k : ℕ) → k < 64 → 2 ^ k % 2 ^ 64 ≡ 2 ^ k
word_power k h = mod_small (2 ^ k) (2 ^ 64) (pow_below k 64 h)

low_power : (k : ℕ) → k < 32 → 2 ^ k % 2 ^ 64 % 2 ^ 32 ≡ 2 ^ k
low_power k h = ap (λ n. n % 2 ^ 32) (word_power k (omega (arith, h))) ∙ mod_small (2 ^ k) (2 ^ 32) (pow_below k 32 h)

mask_word : (k : ℕ) → k < 64 → (2 ^ k - 1) % 2 ^ 64 ≡ 2 ^ k - 1
mask_word k h = let low = pow_below k 64 h in mod_small (2 ^ k - 1) (2 ^ 64) (omega (arith, low))

mask_small : (k : ℕ) → k < 12 → 2 ^ k - 1 < 2048
mask_small k h =
    let few : k ≤ 11 = omega (arith, h) in
    let two : 0 < 2 = omega arith in
    let low : 2 ^ k ≤ 2 ^ 11 = pow-le-pow_right two few in
    let some = pow_pos k in omega (arith, low, some)

left_small : (a k : ℕ) → k < 12 → a % 2 ^ k < 2 ^ 31
left_small a k h = let low = pow_below k 12 h in let some = pow_pos k in let less : a % 2 ^ k < 2 ^ k = mod_below a (2 ^ k) some in omega (arith, low, less)

small_extended : (n : ℕ) → n < 2 ^ 31 → sign_extended n ≡ n
small_extended n h = grind (arith, ints)

-- ---- what the operations give

-- the same of two integers
abbrev SameGiven : Operation → Operation → (n m : ℕ) → Type 0
SameGiven new op n m = (memory : Memory) (u : Value) → operate memory new u (Integer (m % 2 ^ 64)) ≡ operate memory op u (Integer (n % 2 ^ 64))

multiplied : (k : ℕ) → k < 64 → SameGiven (Reg Sll) (Reg Mul) (2 ^ k) k
unfolding operate
multiplied k low memory (Integer a) =
    let amount : k % 2 ^ 64 % 64 ≡ k = omega (arith, low) in
    ap (λ j. Some (Integer ((a * 2 ^ j) % 2 ^ 64))) amount ∙ ap (λ j. Some (Integer ((a * j) % 2 ^ 64))) (sym (word_power k low))
multiplied k low memory (Pointer b o) = refl
multiplied k low memory (Function f) = refl

quotient_by : (w a m : ℕ) → 0 < m → unsigned_quotient w a m ≡ a / m
quotient_by w a m h = by (m == 0) refl
  where
    by : (c : Bool) → (m == 0) ≡ c → (if c then w - 1 else a / m) ≡ a / m
    by true e = let zero_is : m ≡ 0 = grind (arith, nat_tests) in absurd (let no : ⊥ = omega (arith, zero_is, h) in no)
    by false e = refl

remainder_by : (a m : ℕ) → 0 < m → unsigned_remainder a m ≡ a % m
remainder_by a m h = by (m == 0) refl
  where
    by : (c : Bool) → (m == 0) ≡ c → (if c then a else a % m) ≡ a % m
    by true e = let zero_is : m ≡ 0 = grind (arith, nat_tests) in absurd (let no : ⊥ = omega (arith, zero_is, h) in no)
    by false e = refl

divided : (k : ℕ) → k < 64 → SameGiven (Reg Srl) (Reg Divu) (2 ^ k) k
unfolding operate
divided k low memory (Integer a) =
    let amount : k % 2 ^ 64 % 64 ≡ k = omega (arith, low) in
    ap (λ j. Some (Integer (a / 2 ^ j))) amount
    ∙ ap (λ j. Some (Integer j)) (sym (ap (λ j. unsigned_quotient (2 ^ 64) a j) (word_power k low) ∙ quotient_by (2 ^ 64) a (2 ^ k) (pow_pos k)))
divided k low memory (Pointer b o) = refl
divided k low memory (Function f) = refl

left_over : (k : ℕ) → k < 12 → SameGiven (Reg And) (Reg Remu) (2 ^ k) (2 ^ k - 1)
unfolding operate
left_over k low memory (Integer a) =
    let wide : k < 64 = omega (arith, low) in
    ap (λ j. Some (Integer (bit_and a j))) (mask_word k wide) ∙ ap (λ j. Some (Integer j)) (and_mask a k)
    ∙ ap (λ j. Some (Integer j)) (sym (ap (λ j. unsigned_remainder a j) (word_power k wide) ∙ remainder_by a (2 ^ k) (pow_pos k)))
left_over k low memory (Pointer b o) = refl
left_over k low memory (Function f) = refl

word_multiplied : (k : ℕ) → k < 32 → SameGiven (RegW Sllw) (RegW Mulw) (2 ^ k) k
unfolding operate
word_multiplied k low memory (Integer a) =
    let amount : k % 2 ^ 64 % 2 ^ 32 % 32 ≡ k = omega (arith, low) in
    ap (λ j. Some (Integer (sign_extended ((a % 2 ^ 32 * 2 ^ j) % 2 ^ 32)))) amount
    ∙ ap (λ j. Some (Integer (sign_extended ((a % 2 ^ 32 * j) % 2 ^ 32)))) (sym (low_power k low))
word_multiplied k low memory (Pointer b o) = refl
word_multiplied k low memory (Function f) = refl

word_divided : (k : ℕ) → k < 32 → SameGiven (RegW Srlw) (RegW Divuw) (2 ^ k) k
unfolding operate
word_divided k low memory (Integer a) =
    let amount : k % 2 ^ 64 % 2 ^ 32 % 32 ≡ k = omega (arith, low) in
    ap (λ j. Some (Integer (sign_extended (a % 2 ^ 32 / 2 ^ j)))) amount
    ∙ ap (λ j. Some (Integer (sign_extended j))) (sym (ap (λ j. unsigned_quotient (2 ^ 32) (a % 2 ^ 32) j) (low_power k low) ∙ quotient_by (2 ^ 32) (a % 2 ^ 32) (2 ^ k) (pow_pos k)))
word_divided k low memory (Pointer b o) = refl
word_divided k low memory (Function f) = refl

word_left_over : (k : ℕ) → k < 12 → SameGiven (Reg And) (RegW Remuw) (2 ^ k) (2 ^ k - 1)
unfolding operate
word_left_over k low memory (Integer a) =
    let wide : k < 64 = omega (arith, low) in
    let half : k < 32 = omega (arith, low) in
    let whole : (32 - k) + k ≡ 32 = omega (arith, low) in
    let cut : a % 2 ^ 32 % 2 ^ k ≡ a % 2 ^ k = ap (λ j. a % 2 ^ j % 2 ^ k) (sym whole) ∙ mod-mod-pow a (32 - k) k in
    ap (λ j. Some (Integer (bit_and a j))) (mask_word k wide) ∙ ap (λ j. Some (Integer j)) (and_mask a k)
    ∙ ap (λ j. Some (Integer j)) (sym (ap (λ j. sign_extended (unsigned_remainder (a % 2 ^ 32) j)) (low_power k half)
    ∙ ap sign_extended (remainder_by (a % 2 ^ 32) (2 ^ k) (pow_pos k) ∙ cut) ∙ small_extended (a % 2 ^ k) (left_small a k low)))
word_left_over k low memory (Pointer b o) = refl
word_left_over k low memory (Function f) = refl

-- ---- what is put in place of an operation

-- an operation and a number that do what another does by 2^k, and cost no more
record Shorter (op : Operation) (k : ℕ) (p : Operation × ℕ) : Type 0 where
  same : SameGiven p.0 op (2 ^ k) p.1
  small : p.1 < 2048
  cost : operation_cost p.0 ≡ operation_cost op

shorter_is : (op : Operation) (k : ℕ) (p q : Operation × ℕ) → Some q ≡ Some p → Shorter op k q → Shorter op k p
shorter_is op k p q e h = let is : q ≡ p = cc in subst (Shorter op k) is h

shorter_if : (op : Operation) (k m : ℕ) (o : Operation) (n : ℕ) (p : Operation × ℕ) → (k < m → Shorter op k (o, n)) → if_below k m o n ≡ Some p → Shorter op k p
shorter_if op k m o n p h e = by (nat_lt k m) refl e
  where
    by : (b : Bool) → nat_lt k m ≡ b → (if b then Some (o, n) else None) ≡ Some p → Shorter op k p
    by true low g = shorter_is op k p (o, n) g (h (grind (arith, nat_tests)))
    by false low g = absurd (let no : ⊥ = cc in no)

shorter : (op : Operation) (k : ℕ) (p : Operation × ℕ) → k < 64 → by_power op k ≡ Some p → Shorter op k p
shorter (Reg Mul) k p low h = shorter_is (Reg Mul) k p (Reg Sll, k) h (record { same = multiplied k low; small = omega (arith, low); cost = refl })
shorter (Reg Divu) k p low h = shorter_is (Reg Divu) k p (Reg Srl, k) h (record { same = divided k low; small = omega (arith, low); cost = refl })
shorter (Reg Remu) k p low h =
    shorter_if (Reg Remu) k 12 (Reg And) (2 ^ k - 1) p (λ few. record { same = left_over k few; small = mask_small k few; cost = refl }) h
shorter (RegW Mulw) k p low h =
    shorter_if (RegW Mulw) k 32 (RegW Sllw) k p (λ few. record { same = word_multiplied k few; small = omega (arith, few); cost = refl }) h
shorter (RegW Divuw) k p low h =
    shorter_if (RegW Divuw) k 32 (RegW Srlw) k p (λ few. record { same = word_divided k few; small = omega (arith, few); cost = refl }) h
shorter (RegW Remuw) k p low h =
    shorter_if (RegW Remuw) k 12 (Reg And) (2 ^ k - 1) p (λ few. record { same = word_left_over k few; small = mask_small k few; cost = refl }) h
shorter (Reg Add) k p low h = absurd (let no : ⊥ = cc in no)
shorter (Reg Sub) k p low h = absurd (let no : ⊥ = cc in no)
shorter (Reg Sll) k p low h = absurd (let no : ⊥ = cc in no)
shorter (Reg Slt) k p low h = absurd (let no : ⊥ = cc in no)
shorter (Reg Sltu) k p low h = absurd (let no : ⊥ = cc in no)
shorter (Reg Xor) k p low h = absurd (let no : ⊥ = cc in no)
shorter (Reg Srl) k p low h = absurd (let no : ⊥ = cc in no)
shorter (Reg Sra) k p low h = absurd (let no : ⊥ = cc in no)
shorter (Reg Or) k p low h = absurd (let no : ⊥ = cc in no)
shorter (Reg And) k p low h = absurd (let no : ⊥ = cc in no)
shorter (Reg Mulh) k p low h = absurd (let no : ⊥ = cc in no)
shorter (Reg Mulhsu) k p low h = absurd (let no : ⊥ = cc in no)
shorter (Reg Mulhu) k p low h = absurd (let no : ⊥ = cc in no)
shorter (Reg Div) k p low h = absurd (let no : ⊥ = cc in no)
shorter (Reg Rem) k p low h = absurd (let no : ⊥ = cc in no)
shorter (RegW Addw) k p low h = absurd (let no : ⊥ = cc in no)
shorter (RegW Subw) k p low h = absurd (let no : ⊥ = cc in no)
shorter (RegW Sllw) k p low h = absurd (let no : ⊥ = cc in no)
shorter (RegW Srlw) k p low h = absurd (let no : ⊥ = cc in no)
shorter (RegW Sraw) k p low h = absurd (let no : ⊥ = cc in no)
shorter (RegW Divw) k p low h = absurd (let no : ⊥ = cc in no)
shorter (RegW Remw) k p low h = absurd (let no : ⊥ = cc in no)
shorter (Compare on c) k p low h = absurd (let no : ⊥ = cc in no)

-- what is put in place of an operation by n, if anything is
found : (op : Operation) (n : ℕ) (o : Option ℕ) (p : Operation × ℕ) → exponent n ≡ o → option_and_then (by_power op) o ≡ Some p → (k : ℕ) × (IsPower n k × Shorter op k p)
found op n None p e h = absurd (let no : ⊥ = cc in no)
found op n (Some k) p e h = let power = power_of n k e in (k, (power, shorter op k p power.low h))

-- ---- lines

one_cost : (n : ℕ) → n < 2048 → operand_cost (let a : Operand ℕ = Number n in a) ≡ 1
one_cost n h = let low : is_immediate n ≡ true = grind (arith, nat_tests) in ap (λ (b : Bool). if b then 1 else 9) low

least_cost : (n : ℕ) → 1 ≤ operand_cost (let a : Operand ℕ = Number n in a)
least_cost n = by (is_immediate n)
  where
    by : (b : Bool) → 1 ≤ (if b then 1 else 9)
    by true = omega arith
    by false = omega arith

-- what holds of every operation of no higher cost with the same place and left operand holds of the one that is put
pub shift_cheaper : (good : Line ℕ → Type 0) (to : ℕ) (op : Operation) (a b : Operand ℕ)
    → ((new : Operation) (c : Operand ℕ) → line_cost (Operate to new a c) ≤ line_cost (Operate to op a b) → good (Operate to new a c)) → good (by_shift (Operate to op a b))
shift_cheaper good to op a (At r) h = h op (At r) (omega arith)
shift_cheaper good to op a (Name g) h = h op (Name g) (omega arith)
shift_cheaper good to op a (Number n) h = by (option_and_then (by_power op) (exponent n)) refl
  where
    by : (o : Option (Operation × ℕ)) → option_and_then (by_power op) (exponent n) ≡ o → good (with_operation to op a n o)
    by None e = h op (Number n) (omega arith)
    by (Some p) e =
        let f = found op n (exponent n) p refl e in
        let one = one_cost p.1 f.1.1.small in
        let other = least_cost n in
        let same = f.1.1.cost in
        h p.0 (Number p.1) (omega (arith, one, other, same))

-- what doesn't ask which operation by which number a line does
abbrev pub Unnumbered : {X : Type 0} → (Line ℕ → X) → Type 0
Unnumbered g = (to : ℕ) (op new : Operation) (a : Operand ℕ) (n m : ℕ) → g (Operate to new a (Number m)) ≡ g (Operate to op a (Number n))

pub shift_unchanged : {X : Type 0} (g : Line ℕ → X) → Unnumbered g → (l : Line ℕ) → g (by_shift l) ≡ g l
shift_unchanged g un (Tick turn w) = refl
shift_unchanged g un (Set to a) = refl
shift_unchanged g un (Operate to op a (At r)) = refl
shift_unchanged g un (Operate to op a (Name s)) = refl
shift_unchanged g un (Operate to op a (Number n)) = by (option_and_then (by_power op) (exponent n))
  where
    by : (o : Option (Operation × ℕ)) → g (with_operation to op a n o) ≡ g (Operate to op a (Number n))
    by None = refl
    by (Some p) = un to op p.0 a n p.1
shift_unchanged g un (Load to op at) = refl
shift_unchanged g un (Store size a at) = refl
shift_unchanged g un (Alloc to size) = refl
shift_unchanged g un (Blit a b count) = refl
shift_unchanged g un (Call to callee args) = refl

-- ---- it does the same

pub shift_act : (globals : List Value) (memory : Memory) (values : Values ℕ) (l : Line ℕ) → act globals memory values (by_shift l) ≡ act globals memory values l
shift_act globals memory values (Tick turn w) = refl
shift_act globals memory values (Set to a) = refl
shift_act globals memory values (Operate to op a (At r)) = refl
shift_act globals memory values (Operate to op a (Name g)) = refl
shift_act globals memory values (Operate to op a (Number n)) = by (option_and_then (by_power op) (exponent n)) refl
  where
    same_of : (o new : Operation) (m : ℕ) → ((u : Value) → operate memory new u (Integer (m % 2 ^ 64)) ≡ operate memory o u (Integer (n % 2 ^ 64))) → (v : Option Value)
        → option_and_then (λ u. operate memory new u (Integer (m % 2 ^ 64))) v ≡ option_and_then (λ u. operate memory o u (Integer (n % 2 ^ 64))) v
    same_of o new m h None = refl
    same_of o new m h (Some u) = h u

    by : (o : Option (Operation × ℕ)) → option_and_then (by_power op) (exponent n) ≡ o → act globals memory values (with_operation to op a n o) ≡ act globals memory values (Operate to op a (Number n))
    by None e = refl
    by (Some p) e =
        let f = found op n (exponent n) p refl e in
        let as_power : SameGiven p.0 op n p.1 = subst (λ m. SameGiven p.0 op m p.1) (sym f.1.0.is) f.1.1.same in
        ap Gives (same_of op p.0 p.1 (as_power memory) (value_of globals values a))
shift_act globals memory values (Load to op at) = refl
shift_act globals memory values (Store size a at) = refl
shift_act globals memory values (Alloc to size) = refl
shift_act globals memory values (Blit a b count) = refl
shift_act globals memory values (Call to callee args) = refl
