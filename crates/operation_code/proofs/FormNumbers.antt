-- The numbers of operations that are done by forms.
use Rattle.std.proofs.Common.{◌≡◌, ◌≢◌, ℕ, ◌+◌, ◌-◌, ◌*◌, ◌%◌, ◌^◌, ◌<◌, ◌≤◌, Bool, true, false, refl, ◌∙◌, sym, ap, arith, mod-lt, lit<, ◌&&◌, not, nat_eq, nat_lt, nat_le, int_lt, int_le}
use Rattle.std.specs.Int.{cast_signed, cast_unsigned, w64, trailing_zeros}
use Rattle.std.proofs.lemmas.Int.{ints}
use Rattle.std.proofs.lemmas.Bool.{and_parts}
use Rattle.std.proofs.lemmas.Bool.Decides.{nat_tests}
use Rattle.bits.specs.Words.{sign_extended}
use Rattle.rv_isa.specs.Prelude.{signed}
use Rattle.vcode.specs.Prelude.{is_immediate}
use Rattle.operation_code.specs.Constants.{word}
use Rattle.std.proofs.lemmas.Nat.{one_shl}
use Rattle.operation_code.specs.Immediates.{opposite, next, is_power}
use Rattle.operation_code.proofs.ConstantNumbers.{word_by_bits}

-- an immediate is its number
pub immediate_wide : (n : ℕ) → is_immediate n ≡ true → cast_unsigned w64 (signed 12 (n % 4096)) ≡ n % 2 ^ 64
immediate_wide n h = grind (arith, ints, nat_tests)

pub same_word : (n : ℕ) → word (n % 2 ^ 64) ≡ word n
same_word n = ap sign_extended (let e : n % 2 ^ 64 % 2 ^ 32 ≡ n % 2 ^ 32 = omega arith in e)

pub word_small : (n : ℕ) → word n < 2 ^ 64
word_small n = let is = word_by_bits (n % 2 ^ 32) (mod-lt n (lit< tt)) in grind (arith, nat_tests)

pub word_low : (n : ℕ) → word n % 2 ^ 32 ≡ n % 2 ^ 32
word_low n = let is = word_by_bits (n % 2 ^ 32) (mod-lt n (lit< tt)) in grind (arith, nat_tests)

pub word_is_small : (n : ℕ) → word n % 2 ^ 64 ≡ word n
word_is_small n = let h = word_small n in omega (arith, h)

-- ---- differences

pub less_opposite : (x n : ℕ) → (x + opposite n) % 2 ^ 64 ≡ (x + (2 ^ 64 - n % 2 ^ 64)) % 2 ^ 64
less_opposite x n = omega arith

pub opposite_small : (x n : ℕ) → (x + opposite n % 2 ^ 64) % 2 ^ 64 ≡ (x + (2 ^ 64 - n % 2 ^ 64)) % 2 ^ 64
opposite_small x n = omega arith

pub opposite_word : (x n : ℕ) → (x + word (opposite n) % 2 ^ 64) % 2 ^ 32 ≡ (x % 2 ^ 32 + (2 ^ 32 - n % 2 ^ 64 % 2 ^ 32)) % 2 ^ 32
opposite_word x n = let low = word_low (opposite n) in omega (arith, low)

pub sum_word : (x n : ℕ) → (x + word n % 2 ^ 64) % 2 ^ 32 ≡ (x % 2 ^ 32 + n % 2 ^ 64 % 2 ^ 32) % 2 ^ 32
sum_word x n = let low = word_low n in omega (arith, low)

-- ---- the number that follows

-- where it has 12 bits, it is not the least with a sign
next_is : (n : ℕ) → is_immediate (next n) ≡ true → n % 2 ^ 64 ≢ 2 ^ 63 - 1
next_is n h e = absurd (let no : ⊥ = grind (arith, nat_tests) in no)

next_mod : (n : ℕ) → next n % 2 ^ 64 ≡ (n % 2 ^ 64 + 1) % 2 ^ 64
next_mod n = omega arith

below_next : (x m : ℕ) → x < 2 ^ 64 → m < 2 ^ 64 → m ≢ 2 ^ 63 - 1
    → int_lt (cast_signed w64 x) (cast_signed w64 ((m + 1) % 2 ^ 64)) ≡ int_le (cast_signed w64 x) (cast_signed w64 m)
below_next x m h k other = grind (arith, ints, nat_tests)

pub signed_next : (x n : ℕ) → x < 2 ^ 64 → is_immediate (next n) ≡ true
    → int_lt (cast_signed w64 x) (cast_signed w64 (next n % 2 ^ 64)) ≡ int_le (cast_signed w64 x) (cast_signed w64 (n % 2 ^ 64))
signed_next x n h near =
    ap (λ m. int_lt (cast_signed w64 x) (cast_signed w64 m)) (next_mod n) ∙ below_next x (n % 2 ^ 64) h (mod-lt n (lit< tt)) (next_is n near)

pub unsigned_next : (x n : ℕ) → x < 2 ^ 64 → (is_immediate (next n) && not (nat_eq (next n) 0)) ≡ true → nat_lt x (next n % 2 ^ 64) ≡ nat_le x (n % 2 ^ 64)
unsigned_next x n h near =
    let some = (and_parts (is_immediate (next n)) (not (nat_eq (next n) 0)) near).1 in
    by_test (nat_eq (next n) 0) refl some
  where
    by_test : (b : Bool) → nat_eq (next n) 0 ≡ b → not b ≡ true → nat_lt x (next n % 2 ^ 64) ≡ nat_le x (n % 2 ^ 64)
    by_test true e k = absurd (let no : ⊥ = cc in no)
    by_test false e k = grind (arith, nat_tests)

-- ---- shifts

pub shift_of_64 : (n : ℕ) → n % 64 % 64 ≡ n % 2 ^ 64 % 64
shift_of_64 n = omega arith

pub shift_of_32 : (n : ℕ) → n % 32 % 2 ^ 32 % 32 ≡ n % 2 ^ 64 % 2 ^ 32 % 32
shift_of_32 n = omega arith

-- ---- zero

pub zero_is : (x n : ℕ) → nat_eq n 0 ≡ true → nat_lt x 1 ≡ nat_eq x (n % 2 ^ 64)
zero_is x n h = grind (arith, nat_tests)

pub not_zero_is : (x n : ℕ) → nat_eq n 0 ≡ true → nat_lt 0 x ≡ not (nat_eq x (n % 2 ^ 64))
not_zero_is x n h = grind (arith, nat_tests)

-- ---- powers of two

-- n is 2 to the power of its zeros, of which it has fewer than so many
pub record IsPower (bits n : ℕ) : Type 0 where
  pub few : trailing_zeros w64 n < bits
  pub power : 2 ^ trailing_zeros w64 n ≡ n

pub power_is : (bits n : ℕ) → bits ≤ 64 → is_power bits n ≡ true → IsPower bits n
power_is bits n most h =
    let k : ℕ = trailing_zeros w64 n in
    let parts = and_parts (nat_lt k bits) (nat_eq n ((1 * 2 ^ k) % 2 ^ 64)) h in
    let lo = parts.0 in
    let same = parts.1 in
    let few : k < bits = grind (arith, nat_tests) in
    let is : n ≡ (1 * 2 ^ k) % 2 ^ 64 = grind (arith, nat_tests) in
    record { few = few; power = sym (one_shl k 64 (omega (arith, few, most))) ∙ sym is }

pub small_64 : (k : ℕ) → k < 64 → k % 64 % 64 ≡ k
small_64 k h = omega (arith, h)

pub small_32 : (k : ℕ) → k < 32 → k % 32 % 2 ^ 32 % 32 ≡ k
small_32 k h = omega (arith, h)

pub low_word : (n : ℕ) → n % 2 ^ 32 ≡ n % 2 ^ 64 % 2 ^ 32
low_word n = omega arith
