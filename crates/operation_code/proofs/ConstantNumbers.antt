-- The numbers that constants and offsets are made of.
use Rattle.std.proofs.Common.{◌≡◌, refl, ap, ℕ, ◌+◌, ◌-◌, ◌*◌, ◌/◌, ◌%◌, ◌^◌, ◌<◌, ◌≤◌, Bool, true, false, arith, inl, inr, pos, negsuc, lit<, mod-lt, nat_lt, if◌then◌else◌, ℤ, ◌⊎◌}
use Rattle.std.specs.Int.{cast_unsigned, w64}
use Rattle.std.proofs.lemmas.Int.{ints}
use Rattle.std.proofs.lemmas.Bool.Decides.{nat_tests}
use Rattle.bits.specs.Words.{sign_extended, upper_field, lower_field, Fits12}
use Rattle.rv_isa.specs.Prelude.{signed, moved}
use Rattle.vcode.specs.Prelude.{is_immediate}

-- ---- immediates

pub low_moves : (x n : ℕ) → moved x (signed 12 (n % 4096)) ≡ (x + n % 4096 + (if nat_lt (n % 4096) 2048 then 0 else 2 ^ 64 - 4096)) % 2 ^ 64
low_moves x n = grind (arith, ints, nat_tests)

pub immediate_is : (n : ℕ) → is_immediate n ≡ true → moved 0 (signed 12 (n % 4096)) ≡ n % 2 ^ 64
immediate_is n h = let is = low_moves 0 n in grind (arith, nat_tests)

pub immediate_adds : (x n : ℕ) → is_immediate n ≡ true → moved x (signed 12 (n % 4096)) ≡ (x + n) % 2 ^ 64
immediate_adds x n h = let is = low_moves x n in grind (arith, nat_tests)

pub near_moves : (x n : ℕ) → n < 2048 → moved x (signed 12 (n % 4096)) ≡ (x + n) % 2 ^ 64
near_moves x n h = let is = low_moves x n in grind (arith, nat_tests)

-- ---- words

pub word_by_bits : (m : ℕ) → m < 2 ^ 32 → sign_extended m ≡ (if nat_lt m (2 ^ 31) then m else m + (2 ^ 64 - 2 ^ 32))
word_by_bits m h = grind (arith, ints, nat_tests)

-- the upper part and the low part together
parts_of_word : (m x : ℕ) → m < 2 ^ 32 → x ≡ sign_extended ((m + 2048) / 4096 % 2 ^ 20 * 4096) → (x + cast_unsigned w64 (signed 12 (m % 4096))) % 2 ^ 32 ≡ m
parts_of_word m x h e =
    let up = word_by_bits ((m + 2048) / 4096 % 2 ^ 20 * 4096) (omega arith) in
    let low = low_moves x m in
    grind (arith, nat_tests)

pub word_made : (m : ℕ) → m < 2 ^ 32
    → sign_extended ((sign_extended ((m + 2048) / 4096 % 2 ^ 20 * 4096) + cast_unsigned w64 (signed 12 (m % 4096))) % 2 ^ 32) ≡ sign_extended m
word_made m h = ap sign_extended (parts_of_word m (sign_extended ((m + 2048) / 4096 % 2 ^ 20 * 4096)) h refl)

-- without a low part
pub upper_made : (m : ℕ) → m < 2 ^ 32 → m % 4096 ≡ 0 → sign_extended ((m + 2048) / 4096 % 2 ^ 20 * 4096) ≡ sign_extended m
upper_made m h e = ap sign_extended (let whole : (m + 2048) / 4096 % 2 ^ 20 * 4096 ≡ m = omega (arith, h, e) in whole)

-- ---- far offsets

pub high_is : (o : ℕ) → o < 2 ^ 21 → sign_extended ((o + 2048) / 4096 % 2 ^ 20 * 4096) ≡ (o + 2048) / 4096 * 4096
high_is o h = grind (arith, ints)

pub far_moves : (b o : ℕ) → o < 2 ^ 21 → b < 2 ^ 63
    → moved ((sign_extended ((o + 2048) / 4096 % 2 ^ 20 * 4096) + b) % 2 ^ 64) (signed 12 (o % 4096)) ≡ b + o
far_moves b o h small =
    let up = high_is o h in
    let low = low_moves ((sign_extended ((o + 2048) / 4096 % 2 ^ 20 * 4096) + b) % 2 ^ 64) o in
    grind (arith, nat_tests)

-- ---- a number of 64 bits, in parts

pub top_bits : (m : ℕ) → m < 2 ^ 64 → sign_extended (m / 2 ^ 44 % 2 ^ 20 * 4096) / 2 % 2 ^ 31 ≡ m / 2 ^ 44 * 2 ^ 11
top_bits m h = grind (arith, ints)

pub part_1 : (m v : ℕ) → m < 2 ^ 64 → v % 2 ^ 31 ≡ m / 2 ^ 44 * 2 ^ 11 → (v + m / 2 ^ 33 % 2 ^ 11) % 2 ^ 64 % 2 ^ 31 ≡ m / 2 ^ 33
part_1 m v h e = omega arith

pub part_2 : (m v : ℕ) → m < 2 ^ 64 → v % 2 ^ 31 ≡ m / 2 ^ 33 → ((v * 2 ^ 11) % 2 ^ 64 + m / 2 ^ 22 % 2 ^ 11) % 2 ^ 64 % 2 ^ 42 ≡ m / 2 ^ 22
part_2 m v h e = omega arith

pub part_3 : (m v : ℕ) → m < 2 ^ 64 → v % 2 ^ 42 ≡ m / 2 ^ 22 → ((v * 2 ^ 11) % 2 ^ 64 + m / 2 ^ 11 % 2 ^ 11) % 2 ^ 64 % 2 ^ 53 ≡ m / 2 ^ 11
part_3 m v h e = omega arith

pub part_4 : (m v : ℕ) → m < 2 ^ 64 → v % 2 ^ 53 ≡ m / 2 ^ 11 → ((v * 2 ^ 11) % 2 ^ 64 + m % 2 ^ 11) % 2 ^ 64 ≡ m
part_4 m v h e = omega arith

-- ---- the two parts of an address

lower_moves : (x n : ℕ) → moved x (lower_field n) ≡ (x + n % 4096 + (if nat_lt (n % 4096) 2048 then 0 else 2 ^ 64 - 4096)) % 2 ^ 64
lower_moves x n = grind (arith, ints, nat_tests)

upper_below : (n : ℕ) → n < 2 ^ 30 + 2048 → sign_extended (upper_field n * 4096) ≡ (n + 2048) / 4096 * 4096
upper_below n h = grind (arith, ints)

-- they make an address that is low, and one that is just below 2^64
parts_below : (n : ℕ) → n < 2 ^ 30 + 2048 → moved (sign_extended (upper_field n * 4096)) (lower_field n) ≡ n
parts_below n h =
    let up = upper_below n h in
    let low = lower_moves (sign_extended (upper_field n * 4096)) n in
    grind (arith, nat_tests)

upper_none : (n : ℕ) → 2 ^ 64 ≤ n + 2048 → n < 2 ^ 64 → sign_extended (upper_field n * 4096) ≡ 0
upper_none n h small = ap (λ x. sign_extended (x * 4096)) (let none : upper_field n ≡ 0 = omega (arith, h, small) in none)

parts_above : (n : ℕ) → 2 ^ 64 ≤ n + 2048 → n < 2 ^ 64 → moved (sign_extended (upper_field n * 4096)) (lower_field n) ≡ n
parts_above n h small =
    let up = upper_none n h small in
    let low = lower_moves (sign_extended (upper_field n * 4096)) n in
    grind (arith, nat_tests)

-- an address beyond a low one is one of these
near_low : (g : ℕ) (z : ℤ) → Fits12 z → g < 2 ^ 30 → (moved g z < 2 ^ 30 + 2048) ⊎ (2 ^ 64 ≤ moved g z + 2048)
near_low g (pos k) fits h = let most = fits.1 in inl (grind (arith, ints))
near_low g (negsuc k) fits h = by_test (nat_lt k g) refl
  where
    by_test : (b : Bool) → nat_lt k g ≡ b → (moved g (negsuc k) < 2 ^ 30 + 2048) ⊎ (2 ^ 64 ≤ moved g (negsuc k) + 2048)
    by_test true e = let least = fits.0 in inl (grind (arith, ints, nat_tests))
    by_test false e = let least = fits.0 in inr (grind (arith, ints, nat_tests))

pub parts_made : (g : ℕ) (z : ℤ) → Fits12 z → g < 2 ^ 30
    → moved (sign_extended (upper_field (moved g z) * 4096)) (lower_field (moved g z)) ≡ moved g z
parts_made g z fits h =
    elim (near_low g z fits h) [
      | inl below ↦ parts_below (moved g z) below
      | inr above ↦ parts_above (moved g z) above (mod-lt _ (lit< tt))
    ]
