-- What the operations compute fits a register.
use Rattle.std.proofs.Common.{ℕ, zero, suc, ◌+◌, ◌-◌, ◌*◌, ◌/◌, ◌%◌, ◌^◌, ◌<◌, ◌≤◌, Bool, true, false, arith, pos, negsuc, FitsSigned, lit<, mod-lt, div-le_self, mul-le-mul, ℤ, ◌*ℤ◌, ◌==◌, if◌then◌else◌, int_div, int_rem, unsigned_abs}
use Rattle.std.proofs.Math.Nat.{mod-le}
use Rattle.std.specs.Int.{w8, w16, w32, w64, w128, cast_signed, cast_unsigned, int_shr}
use Rattle.std.proofs.lemmas.Int.{ints, fits_signed_mul}
use Rattle.std.proofs.lemmas.Nat.{shr_below, shr_le, or_lt, xor_lt, and_le_l}
use lib.IntN.{neg_ℤ}
use lib.Signed.{mag, mag_shr, mag_rem}
use Rattle.bits.specs.Words.{sign_extended, Fits12}
use Rattle.rv_isa.specs.Prelude.{truth, quotient, unsigned_quotient, remainder, unsigned_remainder, reg_value, word_value, regw_value, imm_value, imm_op_of, addiw_value, shift_value, shiftw_value, upper_value, widened, load_size, load_value, UpperField, LoadOp, Lb, Lh, Lw, Ld, Lbu, Lhu, Lwu, ImmOp, ShiftOp, Slli, Srli, Srai, ShiftWOp, Slliw, Srliw, Sraiw, RegOp, Add, Sub, Sll, Slt, Sltu, Xor, Srl, Sra, Or, And, Mul, Mulh, Mulhsu, Mulhu, Div, Divu, Rem, Remu, RegWOp, Addw, Subw, Sllw, Srlw, Sraw, Mulw, Divw, Divuw, Remw, Remuw}

-- ---- signed readings and bits

mag64 : (n : ℕ) → n < 2 ^ 64 → mag (cast_signed w64 n) < 2 ^ 63
mag64 n h = grind (arith, ints)

mag32 : (n : ℕ) → n < 2 ^ 32 → mag (cast_signed w32 n) < 2 ^ 31
mag32 n h = grind (arith, ints)

bits64 : (z : ℤ) → mag z < 2 ^ 64 → cast_unsigned w64 z < 2 ^ 64
bits64 (pos n) h = h
bits64 (negsuc n) h = omega arith

bits32 : (z : ℤ) → mag z < 2 ^ 32 → cast_unsigned w32 z < 2 ^ 32
bits32 (pos n) h = h
bits32 (negsuc n) h = omega arith

pub extended_fits : (n : ℕ) → n < 2 ^ 32 → sign_extended n < 2 ^ 64
extended_fits n h = bits64 (cast_signed w32 n) (omega (arith, mag32 n h))

-- ---- division

neg_mag : (n : ℕ) → mag (neg_ℤ (pos n)) ≤ n
neg_mag zero = omega arith
neg_mag (suc n) = omega arith

quot_mag : (x y : ℤ) → mag (int_div x y) ≤ mag x + 1
quot_mag (pos a) (pos b) = omega (arith, div-le_self a b)
quot_mag (pos a) (negsuc b) = omega (arith, div-le_self a (suc b), neg_mag (a / suc b))
quot_mag (negsuc a) (pos b) = omega (arith, div-le_self (suc a) b, neg_mag (suc a / b))
quot_mag (negsuc a) (negsuc b) = omega (arith, div-le_self (suc a) (suc b))

either_below : (b : Bool) (x y m : ℕ) → x < m → y < m → (if b then x else y) < m
either_below true x y m p q = p
either_below false x y m p q = q

quotient64 : (a b : ℕ) → a < 2 ^ 64 → quotient w64 (2 ^ 64) a b < 2 ^ 64
quotient64 a b h =
    either_below (b == 0) (2 ^ 64 - 1) (cast_unsigned w64 (int_div (cast_signed w64 a) (cast_signed w64 b))) (2 ^ 64) (lit< tt)
    (bits64 (int_div (cast_signed w64 a) (cast_signed w64 b)) (omega (arith, quot_mag (cast_signed w64 a) (cast_signed w64 b), mag64 a h)))

quotient32 : (a b : ℕ) → a < 2 ^ 32 → quotient w32 (2 ^ 32) a b < 2 ^ 32
quotient32 a b h =
    either_below (b == 0) (2 ^ 32 - 1) (cast_unsigned w32 (int_div (cast_signed w32 a) (cast_signed w32 b))) (2 ^ 32) (lit< tt)
    (bits32 (int_div (cast_signed w32 a) (cast_signed w32 b)) (omega (arith, quot_mag (cast_signed w32 a) (cast_signed w32 b), mag32 a h)))

remainder64 : (a b : ℕ) → a < 2 ^ 64 → remainder w64 a b < 2 ^ 64
remainder64 a b h =
    either_below (b == 0) a (cast_unsigned w64 (int_rem (cast_signed w64 a) (cast_signed w64 b))) (2 ^ 64) h
    (bits64 (int_rem (cast_signed w64 a) (cast_signed w64 b)) (omega (arith, mag_rem (cast_signed w64 a) (cast_signed w64 b), mag64 a h)))

remainder32 : (a b : ℕ) → a < 2 ^ 32 → remainder w32 a b < 2 ^ 32
remainder32 a b h =
    either_below (b == 0) a (cast_unsigned w32 (int_rem (cast_signed w32 a) (cast_signed w32 b))) (2 ^ 32) h
    (bits32 (int_rem (cast_signed w32 a) (cast_signed w32 b)) (omega (arith, mag_rem (cast_signed w32 a) (cast_signed w32 b), mag32 a h)))

unsigned_quotient_fits : (m a b : ℕ) → 0 < m → a < m → unsigned_quotient m a b < m
unsigned_quotient_fits m a b some h = either_below (b == 0) (m - 1) (a / b) m (omega arith) (omega (arith, div-le_self a b))

unsigned_remainder_fits : (m a b : ℕ) → a < m → unsigned_remainder a b < m
unsigned_remainder_fits m a b h = either_below (b == 0) a (a % b) m h (omega (arith, mod-le a b))

-- ---- products

high_fits : (z : ℤ) → mag z < 2 ^ 127 → cast_unsigned w64 (int_shr z 64) < 2 ^ 64
high_fits (pos n) h = omega (arith, shr_below n 63 64 h)
high_fits (negsuc n) h = omega arith

small_abs : (z : ℤ) → mag z < 2 ^ 63 → unsigned_abs z ≤ 2 ^ 63
small_abs (pos n) h = omega (arith, h)
small_abs (negsuc n) h = omega (arith, h)

signed_product : (a b : ℕ) → a < 2 ^ 64 → b < 2 ^ 64 → mag (cast_signed w64 a *ℤ cast_signed w64 b) < 2 ^ 127
signed_product a b h k =
    let x = cast_signed w64 a in
    let y = cast_signed w64 b in
    let fits : FitsSigned w128 (x *ℤ y) = fits_signed_mul w128 x y (2 ^ 63) (2 ^ 63) (small_abs x (mag64 a h)) (small_abs y (mag64 b k)) (lit< tt) in
    fits.sfits

mixed_product : (a b : ℕ) → a < 2 ^ 64 → b < 2 ^ 64 → mag (cast_signed w64 a *ℤ pos b) < 2 ^ 127
mixed_product a b h k =
    let x = cast_signed w64 a in
    let fits : FitsSigned w128 (x *ℤ pos b) = fits_signed_mul w128 x (pos b) (2 ^ 63) (2 ^ 64 - 1) (small_abs x (mag64 a h)) (omega arith) (lit< tt) in
    fits.sfits

unsigned_product : (a b : ℕ) → a < 2 ^ 64 → b < 2 ^ 64 → a * b / 2 ^ 64 < 2 ^ 64
unsigned_product a b h k =
    let first : a ≤ 2 ^ 64 - 1 = omega arith in
    let second : b ≤ 2 ^ 64 - 1 = omega arith in
    let bound : a * b ≤ (2 ^ 64 - 1) * (2 ^ 64 - 1) = mul-le-mul first second in
    shr_below (a * b) 64 64 (omega (arith, bound))

truth_fits : (b : Bool) → truth b < 2 ^ 64
truth_fits true = lit< tt
truth_fits false = lit< tt

-- ---- the operations

pub reg_value_fits : (op : RegOp) (a b : ℕ) → a < 2 ^ 64 → b < 2 ^ 64 → reg_value op a b < 2 ^ 64
reg_value_fits Add a b h k = mod-lt _ (lit< tt)
reg_value_fits Sub a b h k = mod-lt _ (lit< tt)
reg_value_fits Sll a b h k = mod-lt _ (lit< tt)
reg_value_fits Slt a b h k = truth_fits _
reg_value_fits Sltu a b h k = truth_fits _
reg_value_fits Xor a b h k = xor_lt 64 a b h k
reg_value_fits Srl a b h k = omega (arith, shr_le a (b % 64))
reg_value_fits Sra a b h k = bits64 (int_shr (cast_signed w64 a) (b % 64)) (omega (arith, mag_shr (cast_signed w64 a) (2 ^ (b % 64)), mag64 a h))
reg_value_fits Or a b h k = or_lt 64 a b h k
reg_value_fits And a b h k = omega (arith, and_le_l a b)
reg_value_fits Mul a b h k = mod-lt _ (lit< tt)
reg_value_fits Mulh a b h k = high_fits (cast_signed w64 a *ℤ cast_signed w64 b) (signed_product a b h k)
reg_value_fits Mulhsu a b h k = high_fits (cast_signed w64 a *ℤ pos b) (mixed_product a b h k)
reg_value_fits Mulhu a b h k = unsigned_product a b h k
reg_value_fits Div a b h k = quotient64 a b h
reg_value_fits Divu a b h k = unsigned_quotient_fits (2 ^ 64) a b (lit< tt) h
reg_value_fits Rem a b h k = remainder64 a b h
reg_value_fits Remu a b h k = unsigned_remainder_fits (2 ^ 64) a b h

pub word_value_fits : (op : RegWOp) (a b : ℕ) → a < 2 ^ 32 → b < 2 ^ 32 → word_value op a b < 2 ^ 32
word_value_fits Addw a b h k = mod-lt _ (lit< tt)
word_value_fits Subw a b h k = mod-lt _ (lit< tt)
word_value_fits Sllw a b h k = mod-lt _ (lit< tt)
word_value_fits Srlw a b h k = omega (arith, shr_le a (b % 32))
word_value_fits Sraw a b h k = bits32 (int_shr (cast_signed w32 a) (b % 32)) (omega (arith, mag_shr (cast_signed w32 a) (2 ^ (b % 32)), mag32 a h))
word_value_fits Mulw a b h k = mod-lt _ (lit< tt)
word_value_fits Divw a b h k = quotient32 a b h
word_value_fits Divuw a b h k = unsigned_quotient_fits (2 ^ 32) a b (lit< tt) h
word_value_fits Remw a b h k = remainder32 a b h
word_value_fits Remuw a b h k = unsigned_remainder_fits (2 ^ 32) a b h

pub regw_value_fits : (op : RegWOp) (a b : ℕ) → regw_value op a b < 2 ^ 64
regw_value_fits op a b =
    extended_fits (word_value op (a % 2 ^ 32) (b % 2 ^ 32)) (word_value_fits op (a % 2 ^ 32) (b % 2 ^ 32) (mod-lt a (lit< tt)) (mod-lt b (lit< tt)))

-- ---- immediates and addresses

pub widened_fits : (z : ℤ) → Fits12 z → widened z < 2 ^ 64
widened_fits z h = grind (arith, ints)

pub imm_value_fits : (op : ImmOp) (a : ℕ) (z : ℤ) → a < 2 ^ 64 → Fits12 z → imm_value op a z < 2 ^ 64
imm_value_fits op a z h fits = reg_value_fits (imm_op_of op) a (widened z) h (widened_fits z fits)

pub addiw_value_fits : (a : ℕ) (z : ℤ) → addiw_value a z < 2 ^ 64
addiw_value_fits a z = extended_fits ((a + widened z) % 2 ^ 32) (mod-lt (a + widened z) (lit< tt))

pub shift_value_fits : (op : ShiftOp) (a n : ℕ) → a < 2 ^ 64 → n < 64 → shift_value op a n < 2 ^ 64
shift_value_fits Slli a n h k = reg_value_fits Sll a n h (omega (arith, k))
shift_value_fits Srli a n h k = reg_value_fits Srl a n h (omega (arith, k))
shift_value_fits Srai a n h k = reg_value_fits Sra a n h (omega (arith, k))

pub shiftw_value_fits : (op : ShiftWOp) (a n : ℕ) → shiftw_value op a n < 2 ^ 64
shiftw_value_fits Slliw a n = regw_value_fits Sllw a n
shiftw_value_fits Srliw a n = regw_value_fits Srlw a n
shiftw_value_fits Sraiw a n = regw_value_fits Sraw a n

pub upper_value_fits : (field : UpperField) → upper_value field < 2 ^ 64
upper_value_fits field = let h : field.value < 2 ^ 20 = field.in_range in extended_fits (field.value * 4096) (omega (arith, h))

-- ---- loads

signed8 : (n : ℕ) → n < 2 ^ 8 → cast_unsigned w64 (cast_signed w8 n) < 2 ^ 64
signed8 n h = grind (arith, ints)

signed16 : (n : ℕ) → n < 2 ^ 16 → cast_unsigned w64 (cast_signed w16 n) < 2 ^ 64
signed16 n h = grind (arith, ints)

pub load_value_fits : (op : LoadOp) (n : ℕ) → n < 256 ^ load_size op → load_value op n < 2 ^ 64
load_value_fits Lb n h = signed8 n h
load_value_fits Lh n h = signed16 n h
load_value_fits Lw n h = extended_fits n h
load_value_fits Ld n h = h
load_value_fits Lbu n h = omega (arith, h)
load_value_fits Lhu n h = omega (arith, h)
load_value_fits Lwu n h = omega (arith, h)
