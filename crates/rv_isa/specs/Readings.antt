-- What is read from a word is in the range of its field, and so are the parts of an address.
use Rattle.std.proofs.Common.{◌≡◌, ℕ, ◌+◌, ◌*◌, ◌%◌, ◌^◌, ◌<◌, arith, pos, negsuc}
use Rattle.std.specs.Prelude.{◌≤ℤ◌, ◌<ℤ◌, unsigned_abs}
use Rattle.std.proofs.lemmas.Int.{ints}
use Rattle.bits.specs.Words.{Fits12, upper_field, lower_field}
use Rattle.rv_isa.specs.Formats.{part, signed}

pub signed12_fits : (n : ℕ) → n < 4096 → Fits12 (signed 12 n)
signed12_fits n h = grind (arith, ints)

pub signed13_at_least : (n : ℕ) → n < 4096 → negsuc 4095 ≤ℤ signed 13 (n * 2)
signed13_at_least n h = grind (arith, ints)

pub signed13_at_most : (n : ℕ) → n < 4096 → signed 13 (n * 2) <ℤ pos 4096
signed13_at_most n h = grind (arith, ints)

pub signed13_even : (n : ℕ) → n < 4096 → unsigned_abs (signed 13 (n * 2)) % 2 ≡ 0
signed13_even n h = grind (arith, ints)

pub signed21_at_least : (n : ℕ) → n < 1048576 → negsuc 1048575 ≤ℤ signed 21 (n * 2)
signed21_at_least n h = grind (arith, ints)

pub signed21_at_most : (n : ℕ) → n < 1048576 → signed 21 (n * 2) <ℤ pos 1048576
signed21_at_most n h = grind (arith, ints)

pub signed21_even : (n : ℕ) → n < 1048576 → unsigned_abs (signed 21 (n * 2)) % 2 ≡ 0
signed21_even n h = grind (arith, ints)

pub i_below : (w : ℕ) → part w 31 20 < 4096
i_below w = omega arith

pub s_below : (w : ℕ) → part w 31 25 * 32 + part w 11 7 < 4096
s_below w = omega arith

pub b_below : (w : ℕ) → part w 31 31 * 2048 + part w 7 7 * 1024 + part w 30 25 * 16 + part w 11 8
    < 4096
b_below w = omega arith

pub j_below : (w : ℕ) → part w 31 31 * 524288 + part w 19 12 * 2048 + part w 20 20 * 1024 + part w
    30 21 < 1048576
j_below w = omega arith

pub upper_fits : (a : ℕ) → upper_field a < 2 ^ 20
upper_fits a = omega arith

pub lower_fits : (a : ℕ) → Fits12 (lower_field a)
lower_fits a = (grind (arith, ints), grind (arith, ints))
