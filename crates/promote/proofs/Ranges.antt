-- Results of operations on integers are integers below 2^64.
use Rattle.std.proofs.Common.{ℕ, zero, suc, ◌+◌, ◌-◌, ◌*◌, ◌/◌, ◌%◌, ◌^◌, ◌<◌, ◌≤◌, Bool, true, false, cond, nat_eq, arith, pos, negsuc, lit<, mod-lt, div-le_self, ℤ, int_div, int_rem, bit_and, bit_or, bit_xor, Option, Some, None}
use Rattle.std.proofs.Math.Nat.{mod-le}
use Rattle.std.specs.Int.{w8, w16, w32, w64, cast_signed, cast_unsigned, int_shr}
use Rattle.std.specs.Int.Bits.{and_lt}
use Rattle.std.proofs.lemmas.Int.{ints}
use Rattle.std.proofs.lemmas.Nat.{or_lt, xor_lt}
use lib.IntN.{neg_ℤ}
use lib.Signed.{mag, mag_shr, mag_rem}
use Rattle.il_ast.specs.declared.operation.Class.{Class}
use Rattle.il_ast.specs.declared.operation.Class.TheVariants.{W, L}
use Rattle.il_ast.specs.declared.operation.Extension.{Extension}
use Rattle.il_ast.specs.declared.operation.Extension.TheVariants.{SignedWord, UnsignedWord, SignedHalf, UnsignedHalf, SignedByte, UnsignedByte}
use Rattle.il_ast.specs.declared.operation.BinaryOp.{BinaryOp}
use Rattle.il_ast.specs.declared.operation.BinaryOp.TheVariants.{Add, Sub, Mul, And, Or, Xor, Div, Rem, Udiv, Urem, Sar, Shr, Shl, Compare}
use Rattle.il_ast.specs.Prelude.{modulus, signed, unsigned, left_class, right_class, on_integers, extended, truth, holds, shift_amount, can_divide}

mag64 : (n : ℕ) → n < 2 ^ 64 → mag (cast_signed w64 n) < 2 ^ 63
mag64 n h = grind (arith, ints)

mag32 : (n : ℕ) → n < 2 ^ 32 → mag (cast_signed w32 n) < 2 ^ 31
mag32 n h = grind (arith, ints)

mag16 : (n : ℕ) → n < 2 ^ 16 → mag (cast_signed w16 n) < 2 ^ 15
mag16 n h = grind (arith, ints)

mag8 : (n : ℕ) → n < 2 ^ 8 → mag (cast_signed w8 n) < 2 ^ 7
mag8 n h = grind (arith, ints)

bits64 : (z : ℤ) → mag z < 2 ^ 64 → cast_unsigned w64 z < 2 ^ 64
bits64 (pos n) h = h
bits64 (negsuc n) h = omega arith

bits32 : (z : ℤ) → mag z < 2 ^ 32 → cast_unsigned w32 z < 2 ^ 32
bits32 (pos n) h = h
bits32 (negsuc n) h = omega arith

neg_mag : (n : ℕ) → mag (neg_ℤ (pos n)) ≤ n
neg_mag zero = omega arith
neg_mag (suc n) = omega arith

quot_mag : (x y : ℤ) → mag (int_div x y) ≤ mag x + 1
quot_mag (pos a) (pos b) = omega (arith, div-le_self a b)
quot_mag (pos a) (negsuc b) = omega (arith, div-le_self a (suc b), neg_mag (a / suc b))
quot_mag (negsuc a) (pos b) = omega (arith, div-le_self (suc a) b, neg_mag (suc a / b))
quot_mag (negsuc a) (negsuc b) = omega (arith, div-le_self (suc a) (suc b))

-- ---- classes

pub modulus_fits : (c : Class) (n : ℕ) → n < modulus c → n < 2 ^ 64
modulus_fits W n h = omega (arith, h)
modulus_fits L n h = h

signed_mag : (c : Class) (a : ℕ) → a < modulus c → mag (signed c a) + 1 < modulus c
signed_mag W a h = omega (arith, mag32 a h)
signed_mag L a h = omega (arith, mag64 a h)

unsigned_fits : (c : Class) (z : ℤ) → mag z < modulus c → unsigned c z < 2 ^ 64
unsigned_fits W z h = omega (arith, bits32 z h)
unsigned_fits L z h = bits64 z h

mod_fits : (c : Class) (n : ℕ) → n % modulus c < 2 ^ 64
mod_fits W n = omega arith
mod_fits L n = mod-lt n (lit< tt)

abbrev pub IfBelow : Option ℕ → Type 0
IfBelow None = Unit {0}
IfBelow (Some n) = n < 2 ^ 64

if_below : (b : Bool) (n : ℕ) → n < 2 ^ 64 → IfBelow (cond b (Some n) None)
if_below true n h = h
if_below false n h = tt

unless_below : (b : Bool) (n : ℕ) → n < 2 ^ 64 → IfBelow (cond b None (Some n))
unless_below true n h = tt
unless_below false n h = h

and_fits : (a b : ℕ) → a < 2 ^ 64 → b < 2 ^ 64 → bit_and a b < 2 ^ 64
and_fits a b h k = and_lt 64 a b h k

or_fits : (a b : ℕ) → a < 2 ^ 64 → b < 2 ^ 64 → bit_or a b < 2 ^ 64
or_fits a b h k = or_lt 64 a b h k

xor_fits : (a b : ℕ) → a < 2 ^ 64 → b < 2 ^ 64 → bit_xor a b < 2 ^ 64
xor_fits a b h k = xor_lt 64 a b h k

divided : (c : Class) (a b : ℕ) → a < modulus c → unsigned c (int_div (signed c a) (signed c b)) < 2 ^ 64
divided c a b h =
    let one = quot_mag (signed c a) (signed c b) in
    let two = signed_mag c a h in
    unsigned_fits c (int_div (signed c a) (signed c b)) (omega (arith, one, two))

remains : (c : Class) (a b : ℕ) → a < modulus c → unsigned c (int_rem (signed c a) (signed c b)) < 2 ^ 64
remains c a b h =
    let one = mag_rem (signed c a) (signed c b) in
    let two = signed_mag c a h in
    unsigned_fits c (int_rem (signed c a) (signed c b)) (omega (arith, one, two))

shifted : (c : Class) (a k : ℕ) → a < modulus c → unsigned c (int_shr (signed c a) k) < 2 ^ 64
shifted c a k h =
    let one = mag_shr (signed c a) (2 ^ k) in
    let two = signed_mag c a h in
    unsigned_fits c (int_shr (signed c a) k) (omega (arith, one, two))

truth_fits : (b : Bool) → truth b < 2 ^ 64
truth_fits true = lit< tt
truth_fits false = lit< tt

shr_fits : (c : Class) (a k : ℕ) → a < modulus c → a / 2 ^ k < 2 ^ 64
shr_fits c a k h = let lt = modulus_fits c a h in omega (arith, div-le_self a (2 ^ k))

pub integers_fit : (op : BinaryOp) (c : Class) (a b : ℕ) → a < modulus (left_class op c) → b < modulus (right_class op c) → IfBelow (on_integers op c a b)
integers_fit Add c a b h k = mod_fits c (a + b)
integers_fit Sub c a b h k = mod_fits c (a + (modulus c - b))
integers_fit Mul c a b h k = mod_fits c (a * b)
integers_fit And c a b h k = and_fits a b (modulus_fits c a h) (modulus_fits c b k)
integers_fit Or c a b h k = or_fits a b (modulus_fits c a h) (modulus_fits c b k)
integers_fit Xor c a b h k = xor_fits a b (modulus_fits c a h) (modulus_fits c b k)
integers_fit Div c a b h k = if_below (can_divide c a b) (unsigned c (int_div (signed c a) (signed c b))) (divided c a b h)
integers_fit Rem c a b h k = if_below (can_divide c a b) (unsigned c (int_rem (signed c a) (signed c b))) (remains c a b h)
integers_fit Udiv c a b h k = let lt = modulus_fits c a h in unless_below (nat_eq b 0) (a / b) (omega (arith, div-le_self a b))
integers_fit Urem c a b h k = let lt = modulus_fits c a h in unless_below (nat_eq b 0) (a % b) (omega (arith, mod-le a b))
integers_fit Sar c a b h k = shifted c a (shift_amount c b) h
integers_fit Shr c a b h k = shr_fits c a (shift_amount c b) h
integers_fit Shl c a b h k = mod_fits c (a * 2 ^ shift_amount c b)
integers_fit (Compare on q) c a b h k = truth_fits (holds on q a b)

small : (c : Class) (z : ℤ) → mag z < 2 ^ 31 → unsigned c z < 2 ^ 64
small W z h = unsigned_fits W z (omega (arith, h))
small L z h = unsigned_fits L z (omega (arith, h))

pub extended_fits : (e : Extension) (c : Class) (n : ℕ) → extended e c n < 2 ^ 64
extended_fits SignedWord c n = small c (cast_signed w32 (n % 2 ^ 32)) (mag32 (n % 2 ^ 32) (mod-lt n (lit< tt)))
extended_fits UnsignedWord c n = omega arith
extended_fits SignedHalf c n = small c (cast_signed w16 (n % 2 ^ 16)) (omega (arith, mag16 (n % 2 ^ 16) (mod-lt n (lit< tt))))
extended_fits UnsignedHalf c n = omega arith
extended_fits SignedByte c n = small c (cast_signed w8 (n % 2 ^ 8)) (omega (arith, mag8 (n % 2 ^ 8) (mod-lt n (lit< tt))))
extended_fits UnsignedByte c n = omega arith

pub neg_fits : (c : Class) (n : ℕ) → (modulus c - n) % modulus c < 2 ^ 64
neg_fits c n = mod_fits c (modulus c - n)
