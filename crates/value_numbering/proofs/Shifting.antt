-- What is shifted to the left, back by zeros and to the left again is shifted to the left and back by less.
use Rattle.std.proofs.Common.{◌≡◌, ℕ, ◌+◌, ◌-◌, ◌*◌, ◌/◌, ◌%◌, ◌^◌, ◌<◌, ◌≤◌, Option, Some, None, refl, sym, ◌∙◌, ap, subst, arith}
use Rattle.std.proofs.Math.Nat.{mul_assoc, add-mul, mul-div_cancel, mod-eq_of_lt, mul-pos, mul-lt-mul_of_pos_right, mul-le-mul_left, le-mul_of_pos_right}
use Rattle.std.proofs.lemmas.Nat.{div-add-mod', mod-mul-add, mod_below, pow_pos, pow-add}
use Rattle.il_ast.specs.declared.value.Value.{Value}
use Rattle.il_ast.specs.declared.value.Value.TheVariants.{Integer, Pointer, Function}
use Rattle.il_ast.specs.Prelude.{Memory}
use Rattle.rv_isa.specs.declared.instruction.RegOp.TheVariants.{Sll, Srl}
use Rattle.rv_isa.specs.Prelude.{reg_value}
use Rattle.vcode.specs.declared.line.Operation.TheVariants.{Reg}
use Rattle.vcode.specs.Prelude.{operate, operated}
use Rattle.value_numbering.proofs.Counting.{number}

-- ---- numbers

-- a multiple modulo a multiple
multiple : (k p r : ℕ) → 0 < p → 0 < r → k * p % (r * p) ≡ k % r * p
multiple k p r some least =
    let low : k % r * p < r * p = mul-lt-mul_of_pos_right (mod_below k r least) some in
    let parts : k * p ≡ k / r * (r * p) + k % r * p = ap (λ (n : ℕ). n * p) (sym (div-add-mod' k r)) ∙ add-mul (k / r * r) (k % r) p ∙ ap (λ (n : ℕ). n + k % r * p) (mul_assoc (k / r) r p) in
    ap (λ (n : ℕ). n % (r * p)) parts ∙ mod-mul-add (k / r) (r * p) (k % r * p) low

-- the number times q * p, in words below r * q * p: divided by p it is what it is divided by q * p, times q
halves : (k p q r : ℕ) → 0 < p → 0 < q → 0 < r → k * (q * p) % (r * (q * p)) / p ≡ k * (q * p) % (r * (q * p)) / (q * p) * q % (r * (q * p))
halves k p q r some few least =
    let both : 0 < q * p = mul-pos few some in
    let is : k * (q * p) % (r * (q * p)) ≡ k % r * (q * p) = multiple k (q * p) r both least in
    let back : k % r * (q * p) / p ≡ k % r * q = ap (λ (n : ℕ). n / p) (sym (mul_assoc (k % r) q p)) ∙ mul-div_cancel (k % r * q) some in
    let wholly : k % r * (q * p) / (q * p) ≡ k % r = mul-div_cancel (k % r) both in
    let first : k % r * q < r * q = mul-lt-mul_of_pos_right (mod_below k r least) few in
    let second : r * q ≤ r * (q * p) = mul-le-mul_left r (le-mul_of_pos_right q some) in
    let low : k % r * q < r * (q * p) = omega (arith, first, second) in
    ap (λ (n : ℕ). n / p) is ∙ back ∙ sym (mod-eq_of_lt low) ∙ sym (ap (λ (n : ℕ). n * q % (r * (q * p))) (ap (λ (n : ℕ). n / (q * p)) is ∙ wholly))

-- a shift by so many bits in a word of 64
word : (a : ℕ) → a < 64 → (r : ℕ) × ((0 < r) × (2 ^ 64 ≡ r * 2 ^ a))
word a few =
    let rest : 64 - a + a ≡ 64 = omega (arith, few) in
    (2 ^ (64 - a), (pow_pos (64 - a), ap (λ (n : ℕ). 2 ^ n) (sym rest) ∙ pow-add 2 (64 - a) a))

shifts : (k a c b : ℕ) → a < 64 → c + b ≡ a → k * 2 ^ a % 2 ^ 64 / 2 ^ b ≡ k * 2 ^ a % 2 ^ 64 / 2 ^ a * 2 ^ c % 2 ^ 64
shifts k a c b few is =
    let parts : 2 ^ a ≡ 2 ^ c * 2 ^ b = ap (λ (n : ℕ). 2 ^ n) (sym is) ∙ pow-add 2 c b in
    let w = word a few in
    subst (λ (m : ℕ). k * 2 ^ a % m / 2 ^ b ≡ k * 2 ^ a % m / 2 ^ a * 2 ^ c % m) (sym w.1.1)
    (subst (λ (p : ℕ). k * p % (w.0 * p) / 2 ^ b ≡ k * p % (w.0 * p) / p * 2 ^ c % (w.0 * p)) (sym parts)
    (halves k (2 ^ b) (2 ^ c) w.0 (pow_pos b) (pow_pos c) w.1.0))

by_words : (k a c b : ℕ) → a < 64 → c < a → b ≡ a - c
    → reg_value Srl (reg_value Sll k (a % 2 ^ 64)) (b % 2 ^ 64) ≡ reg_value Sll (reg_value Srl (reg_value Sll k (a % 2 ^ 64)) (a % 2 ^ 64)) (c % 2 ^ 64)
by_words k a c b few fewer left =
    let first : a % 2 ^ 64 % 64 ≡ a = omega (arith, few) in
    let second : c % 2 ^ 64 % 64 ≡ c = omega (arith, few, fewer) in
    let third : b % 2 ^ 64 % 64 ≡ b = omega (arith, few, fewer, left) in
    let is : c + b ≡ a = omega (arith, few, fewer, left) in
    subst (λ (x : ℕ). k * 2 ^ x % 2 ^ 64 / 2 ^ (b % 2 ^ 64 % 64) ≡ k * 2 ^ x % 2 ^ 64 / 2 ^ x * 2 ^ (c % 2 ^ 64 % 64) % 2 ^ 64) (sym first)
    (subst (λ (x : ℕ). k * 2 ^ a % 2 ^ 64 / 2 ^ (b % 2 ^ 64 % 64) ≡ k * 2 ^ a % 2 ^ 64 / 2 ^ a * 2 ^ x % 2 ^ 64) (sym second)
    (subst (λ (x : ℕ). k * 2 ^ a % 2 ^ 64 / 2 ^ x ≡ k * 2 ^ a % 2 ^ 64 / 2 ^ a * 2 ^ c % 2 ^ 64) (sym third) (shifts k a c b few is)))

-- ---- values

module _ (m : Memory) where
  abbrev left : Option Value → (bits : ℕ) → Option Value
  left o n = operated m (Reg Sll) o (number n)

  abbrev back : Option Value → (bits : ℕ) → Option Value
  back o n = operated m (Reg Srl) o (number n)

  pub less_back : (o : Option Value) (a c b : ℕ) → a < 64 → c < a → b ≡ a - c → back (left o a) b ≡ left (back (left o a) a) c
  unfolding operate
  less_back None a c b few fewer is = refl
  less_back (Some (Integer k)) a c b few fewer is = ap (λ (n : ℕ). Some (Integer n)) (by_words k a c b few fewer is)
  less_back (Some (Pointer q k)) a c b few fewer is = refl
  less_back (Some (Function f)) a c b few fewer is = refl
