-- The machine's operations give the source's numbers.
use Rattle.std.proofs.Common.{◌≡◌, ℕ, ◌-◌, ◌*◌, ◌/◌, ◌%◌, ◌^◌, Bool, true, false, not, cond, nat_eq, ◌&&◌, ◌∙◌, ap, arith, Some, None, int_div, int_rem}
use Rattle.std.specs.Int.{w32, w64, cast_signed, cast_unsigned, int_shr}
use Rattle.il_ast.specs.declared.operation.Class.TheVariants.{W, L}
use Rattle.il_ast.specs.declared.operation.BinaryOp.{BinaryOp}
use Rattle.il_ast.specs.declared.operation.BinaryOp.TheVariants.{Add, Sub, Mul, And, Or, Xor, Div, Rem, Udiv, Urem, Sar, Shr, Shl}
use Rattle.il_ast.specs.Prelude.{on_integers}
use Rattle.rv_isa.specs.declared.instruction.RegOp.{RegOp}
use Rattle.rv_isa.specs.declared.instruction.RegOp.TheVariants.{Add as AddReg, Sub as SubReg, Sll as SllReg, Srl as SrlReg, Sra as SraReg, Xor as XorReg, Or as OrReg, And as AndReg, Mul as MulReg, Div as DivReg, Divu as DivuReg, Rem as RemReg, Remu as RemuReg}
use Rattle.rv_isa.specs.declared.instruction.RegWOp.{RegWOp}
use Rattle.rv_isa.specs.declared.instruction.RegWOp.TheVariants.{Addw, Subw, Sllw, Srlw, Sraw, Mulw, Divw, Divuw, Remw, Remuw}
use Rattle.rv_isa.specs.Prelude.{reg_value, word_value}
use Rattle.il_ast.proofs.Chosen.{same_chosen, none_chosen}

-- ---- division, which the source leaves undefined by 0

divided : (by_zero least : Bool) (z n x : ℕ) → cond (not by_zero && not least) (Some n) None ≡ Some x → cond by_zero z n ≡ x
divided true least z n x h = absurd (none_chosen h)
divided false true z n x h = absurd (none_chosen h)
divided false false z n x h = same_chosen h

divided_unsigned : (by_zero : Bool) (z n x : ℕ) → cond by_zero None (Some n) ≡ Some x → cond by_zero z n ≡ x
divided_unsigned true z n x h = absurd (none_chosen h)
divided_unsigned false z n x h = same_chosen h

-- ---- words

-- the operation on the two words is the source's
abbrev pub WordRight : RegWOp → BinaryOp → Type 0
WordRight rop bop = (a b x : ℕ) → on_integers bop W a b ≡ Some x → word_value rop a b ≡ x

pub add_word : WordRight Addw Add
add_word a b x h = same_chosen h

pub sub_word : WordRight Subw Sub
sub_word a b x h = same_chosen h

pub mul_word : WordRight Mulw Mul
mul_word a b x h = same_chosen h

pub shl_word : WordRight Sllw Shl
shl_word a b x h = same_chosen h

pub shr_word : WordRight Srlw Shr
shr_word a b x h = same_chosen h

pub sar_word : WordRight Sraw Sar
sar_word a b x h = same_chosen h

pub div_word : WordRight Divw Div
div_word a b x h =
    divided (nat_eq b 0) (nat_eq a (2 ^ 32 / 2) && nat_eq b (2 ^ 32 - 1)) (2 ^ 32 - 1) (cast_unsigned w32 (int_div (cast_signed w32 a) (cast_signed w32 b))) x h

pub rem_word : WordRight Remw Rem
rem_word a b x h =
    divided (nat_eq b 0) (nat_eq a (2 ^ 32 / 2) && nat_eq b (2 ^ 32 - 1)) a (cast_unsigned w32 (int_rem (cast_signed w32 a) (cast_signed w32 b))) x h

pub udiv_word : WordRight Divuw Udiv
udiv_word a b x h = divided_unsigned (nat_eq b 0) (2 ^ 32 - 1) (a / b) x h

pub urem_word : WordRight Remuw Urem
urem_word a b x h = divided_unsigned (nat_eq b 0) a (a % b) x h

-- ---- longs

abbrev pub LongRight : RegOp → BinaryOp → Type 0
LongRight rop bop = (a b x : ℕ) → on_integers bop L a b ≡ Some x → reg_value rop a b ≡ x

pub add_long : LongRight AddReg Add
add_long a b x h = same_chosen h

pub sub_long : LongRight SubReg Sub
sub_long a b x h = same_chosen h

pub mul_long : LongRight MulReg Mul
mul_long a b x h = same_chosen h

pub and_long : LongRight AndReg And
and_long a b x h = same_chosen h

pub or_long : LongRight OrReg Or
or_long a b x h = same_chosen h

pub xor_long : LongRight XorReg Xor
xor_long a b x h = same_chosen h

pub div_long : LongRight DivReg Div
div_long a b x h =
    divided (nat_eq b 0) (nat_eq a (2 ^ 64 / 2) && nat_eq b (2 ^ 64 - 1)) (2 ^ 64 - 1) (cast_unsigned w64 (int_div (cast_signed w64 a) (cast_signed w64 b))) x h

pub rem_long : LongRight RemReg Rem
rem_long a b x h =
    divided (nat_eq b 0) (nat_eq a (2 ^ 64 / 2) && nat_eq b (2 ^ 64 - 1)) a (cast_unsigned w64 (int_rem (cast_signed w64 a) (cast_signed w64 b))) x h

pub udiv_long : LongRight DivuReg Udiv
udiv_long a b x h = divided_unsigned (nat_eq b 0) (2 ^ 64 - 1) (a / b) x h

pub urem_long : LongRight RemuReg Urem
urem_long a b x h = divided_unsigned (nat_eq b 0) a (a % b) x h

-- the amount of a shift is a word, of which the low six bits count
abbrev pub ShiftRight : RegOp → BinaryOp → Type 0
ShiftRight rop bop = (a b x : ℕ) → on_integers bop L a (b % 2 ^ 32) ≡ Some x → reg_value rop a b ≡ x

amount : (b : ℕ) → b % 64 ≡ b % 2 ^ 32 % 64
amount b = omega arith

pub shl_long : ShiftRight SllReg Shl
shl_long a b x h = ap (λ k. (a * 2 ^ k) % 2 ^ 64) (amount b) ∙ same_chosen h

pub shr_long : ShiftRight SrlReg Shr
shr_long a b x h = ap (λ k. a / 2 ^ k) (amount b) ∙ same_chosen h

pub sar_long : ShiftRight SraReg Sar
sar_long a b x h = ap (λ k. cast_unsigned w64 (int_shr (cast_signed w64 a) k)) (amount b) ∙ same_chosen h
