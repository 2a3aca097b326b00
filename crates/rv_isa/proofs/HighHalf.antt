-- The high half of a product of 64-bit numbers, computed in 128 bits, is the product divided by 2^64.
use Rattle.std.proofs.Common.{◌≡◌, ℕ, ◌-◌, ◌/◌, ◌^◌, ◌<◌, ◌≤◌, refl, arith, ◌*ℤ◌, pos, negsuc, FitsSigned, to_z, of_z, lit<, ℤ, unsigned_abs}
use Rattle.std.specs.Int.{w64, w128, int_shr}
use Rattle.std.proofs.lemmas.Int.{to_z-of_z, fits_signed_mul}
use Rattle.std.proofs.lemmas.Nat.{shr_below}
use lib.Signed.{mag, shr_z}

mag-shift : (z : ℤ) → mag (int_shr z 64) ≡ mag z / 2 ^ 64
mag-shift (pos n) = refl
mag-shift (negsuc n) = refl

-- a shift by 64 takes 128 bits to 64
shift_fits : (z : ℤ) → mag z < 2 ^ 127 → mag (int_shr z 64) < 2 ^ 63
shift_fits z h = rw mag-shift (shr_below (mag z) 63 64 h)

-- a number that fits 64 bits fits 128
wide : (z : ℤ) → FitsSigned w64 z → FitsSigned w128 z
wide z h = let k : mag z < 2 ^ 63 = h.sfits in record { sfits = omega (arith, k) }

small_abs : (z : ℤ) → FitsSigned w64 z → unsigned_abs z ≤ 2 ^ 63
small_abs (pos n) h = let k : n < 2 ^ 63 = h.sfits in omega (arith, k)
small_abs (negsuc n) h = let k : n < 2 ^ 63 = h.sfits in omega (arith, k)

-- the casts on the way lose nothing
pub high_half : (x y : ℤ) (r : ℕ) → FitsSigned w128 x → FitsSigned w128 y → FitsSigned w128 (x *ℤ y)
    → r ≡ of_z w64 (to_z w64 (of_z w64 (to_z w128 (of_z w128 (shr_z (to_z w128 (of_z w128 (to_z w128 (of_z w128 x) *ℤ to_z w128 (of_z w128 y)))) (2 ^ 64))))))
    → r ≡ of_z w64 (int_shr (x *ℤ y) 64)
high_half x y r fx fy fp e =
    let small : FitsSigned w64 (int_shr (x *ℤ y) 64) = record { sfits = shift_fits (x *ℤ y) fp.sfits } in
    let fs : FitsSigned w128 (int_shr (x *ℤ y) 64) = wide (int_shr (x *ℤ y) 64) small in
    simp to_z-of_z at e

pub signed_by_signed : (a b : ℤ) → FitsSigned w64 a → FitsSigned w64 b → FitsSigned w128 (a *ℤ b)
signed_by_signed a b fa fb = fits_signed_mul w128 a b (2 ^ 63) (2 ^ 63) (small_abs a fa) (small_abs b fb) (lit< tt)

pub signed_by_unsigned : (a : ℤ) (b : ℕ) → FitsSigned w64 a → b < 2 ^ 64 → FitsSigned w128 (a *ℤ pos b)
signed_by_unsigned a b fa h = fits_signed_mul w128 a (pos b) (2 ^ 63) (2 ^ 64 - 1) (small_abs a fa) (omega arith) (lit< tt)

pub wide_signed : (z : ℤ) → FitsSigned w64 z → FitsSigned w128 z
wide_signed = wide

pub wide_unsigned : (n : ℕ) → n < 2 ^ 64 → FitsSigned w128 (pos n)
wide_unsigned n h = record { sfits = omega (arith, h) }
