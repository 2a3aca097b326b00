-- Sums and remainders of numbers that wrap around.
use Rattle.std.proofs.Common.{◌≡◌, ℕ, ◌+◌, ◌%◌, ◌^◌, ◌<◌, arith}

pub low_twice : (n : ℕ) → n % 2 ^ 32 % 2 ^ 32 ≡ n % 2 ^ 32
low_twice n = omega arith

pub same_low : (x : ℕ) → x < 2 ^ 64 → (x + 0) % 2 ^ 64 ≡ x
same_low x h = omega (arith, h)

pub further_sum : (a n m : ℕ) → ((a + n % 2 ^ 64) % 2 ^ 64 + m % 2 ^ 64) % 2 ^ 64 ≡ (a + (n + m) % 2 ^ 64 % 2 ^ 64) % 2 ^ 64
further_sum a n m = omega arith
