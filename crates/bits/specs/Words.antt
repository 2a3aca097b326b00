-- Words of 32 and 64 bits, read as numbers. `cast_signed w32 n` is the signed reading of 32 bits,
-- and `cast_unsigned w64 z` the bits of z.
use Rattle.std.specs.Prelude.{◌≡◌, ℕ, ◌+◌, ◌-◌, ◌*◌, ◌/◌, ◌%◌, ◌^◌, ◌<◌, Bool, ◌&&◌, nat_lt, if◌then◌else◌, ℤ, pos, negsuc, ◌≤ℤ◌, int_lt}
use Rattle.std.specs.Int.{cast_signed, cast_unsigned, w32, w64}

-- the 64 bits with the same signed value (RV64I: the sign extension that the W instructions do)
abbrev pub sign_extended : ℕ → ℕ
sign_extended n = cast_unsigned w64 (cast_signed w32 n)

-- the field of `lui` for a number of 32 bits: its bits 31 to 12, rounded
abbrev pub upper_field : ℕ → ℕ
upper_field n = (n + 2048) % 2 ^ 32 / 4096

-- the immediate of `addiw` for it: its low 12 bits, read with a sign
abbrev pub lower_field : ℕ → ℤ
lower_field n = if nat_lt (n % 4096) 2048 then pos (n % 4096) else negsuc (4095 - n % 4096)

-- z is the value of a signed field of 12 bits
abbrev pub Fits12 : ℤ → Type 0
Fits12 z = (negsuc 2047 ≤ℤ z) × (z ≤ℤ pos 2047)

-- the same as a test
abbrev pub fits_12 : ℤ → Bool
fits_12 z = int_lt (negsuc 2048) z && int_lt z (pos 2048)

-- `lui` with the upper field and `addiw` with the lower make n, modulo 2^32, and both fields are in
-- range
pub record Makes (n upper : ℕ) (lower : ℤ) : Type 0 where
  pub upper_fits : upper < 2 ^ 20
  pub lower_fits : Fits12 lower
  pub makes : (upper * 4096 + cast_unsigned w32 lower) % 2 ^ 32 ≡ n
