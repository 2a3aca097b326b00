-- Numbers that shifts and loads widen, as the source widens them.
use Rattle.std.proofs.Common.{◌≡◌, ℕ, ◌+◌, ◌-◌, ◌*◌, ◌/◌, ◌%◌, ◌^◌, ◌<◌, ◌∙◌, ap, arith, bit_and}
use Rattle.std.specs.Int.{w8, w16, w32, w64, cast_signed, cast_unsigned, int_shr}
use Rattle.std.proofs.lemmas.Nat.{and_mask}
use Rattle.std.proofs.lemmas.Int.{ints}
use Rattle.bits.specs.Words.{sign_extended}

-- ---- words

pub word_plus_zero : (n : ℕ) → (n % 2 ^ 32 + 0 % 2 ^ 32) % 2 ^ 32 ≡ n % 2 ^ 32
word_plus_zero n = omega arith

pub negated_word : (n : ℕ) → (0 % 2 ^ 32 + (2 ^ 32 - n % 2 ^ 32)) % 2 ^ 32 ≡ (2 ^ 32 - n % 2 ^ 32) % 2 ^ 32 % 2 ^ 32
negated_word n = omega arith

pub negated_long : (n : ℕ) → (0 + (2 ^ 64 - n)) % 2 ^ 64 ≡ (2 ^ 64 - n) % 2 ^ 64
negated_long n = omega arith

-- ---- shifts to the left and back

pub back_32 : (n : ℕ) → n * 2 ^ 32 % 2 ^ 64 / 2 ^ 32 ≡ n % 2 ^ 32 % 2 ^ 32
back_32 n = omega arith

pub back_48 : (n : ℕ) → n * 2 ^ 48 % 2 ^ 64 / 2 ^ 48 ≡ n % 2 ^ 32 % 2 ^ 16
back_48 n = omega arith

pub back_56 : (n : ℕ) → n * 2 ^ 56 % 2 ^ 64 / 2 ^ 56 ≡ n % 2 ^ 32 % 2 ^ 8
back_56 n = omega arith

signed_back_48 : (n : ℕ) → int_shr (cast_signed w64 (n * 2 ^ 48 % 2 ^ 64)) 48 ≡ cast_signed w16 (n % 2 ^ 32 % 2 ^ 16)
signed_back_48 n = grind (arith, ints)

signed_back_56 : (n : ℕ) → int_shr (cast_signed w64 (n * 2 ^ 56 % 2 ^ 64)) 56 ≡ cast_signed w8 (n % 2 ^ 32 % 2 ^ 8)
signed_back_56 n = grind (arith, ints)

pub half_back : (n : ℕ) → cast_unsigned w64 (int_shr (cast_signed w64 (n * 2 ^ 48 % 2 ^ 64)) 48) ≡ cast_unsigned w64 (cast_signed w16 (n % 2 ^ 32 % 2 ^ 16))
half_back n = ap (cast_unsigned w64) (signed_back_48 n)

pub byte_back : (n : ℕ) → cast_unsigned w64 (int_shr (cast_signed w64 (n * 2 ^ 56 % 2 ^ 64)) 56) ≡ cast_unsigned w64 (cast_signed w8 (n % 2 ^ 32 % 2 ^ 8))
byte_back n = ap (cast_unsigned w64) (signed_back_56 n)

-- ---- a number of 16 or 8 bits, as a word that is sign-extended

pub half_in_word : (n : ℕ) → n < 2 ^ 16 → sign_extended (cast_unsigned w32 (cast_signed w16 n) % 2 ^ 32) ≡ cast_unsigned w64 (cast_signed w16 n)
half_in_word n h = grind (arith, ints)

pub byte_in_word : (n : ℕ) → n < 2 ^ 8 → sign_extended (cast_unsigned w32 (cast_signed w8 n) % 2 ^ 32) ≡ cast_unsigned w64 (cast_signed w8 n)
byte_in_word n h = grind (arith, ints)

pub word_in_word : (n : ℕ) → n < 2 ^ 32 → sign_extended (cast_unsigned w32 (cast_signed w32 n) % 2 ^ 32) ≡ cast_unsigned w64 (cast_signed w32 n)
word_in_word n h = grind (arith, ints)

pub small_in_word : (n : ℕ) → n < 2 ^ 31 → sign_extended (n % 2 ^ 32) ≡ n
small_in_word n h = grind (arith, ints)

-- ---- bits

pub low_byte : (n : ℕ) → bit_and n 255 ≡ n % 2 ^ 32 % 2 ^ 8
low_byte n = let e : n % 2 ^ 8 ≡ n % 2 ^ 32 % 2 ^ 8 = omega arith in and_mask n 8 ∙ e
