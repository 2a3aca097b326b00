-- The operations (QBE IL, "Arithmetic and Bits", "Memory", "Comparisons", "Conversions"), on
-- integers and on pointers and functions. No result: the operation is undefined there.
use Rattle.std.specs.Prelude.{ℕ, ◌+◌, ◌-◌, ◌*◌, ◌/◌, ◌%◌, ◌^◌, Bool, true, false, not, nat_eq, nat_lt, nat_le, ◌&&◌, if◌then◌else◌, int_lt, int_le, int_div, int_rem, bit_and, bit_or, bit_xor, Option, Some, None}
use Rattle.std.specs.Int.{w8, w16, w32, cast_signed, int_shr}
use Rattle.std.specs.Option.{option_map, option_and_then, option_map_or}
use Rattle.il_ast.specs.Types.{Class, W, L, Extension, SignedWord, UnsignedWord, SignedHalf, UnsignedHalf, SignedByte, UnsignedByte, UnaryOp, Neg, Copy, Extend, LoadLong, Load, Condition, Equal, NotEqual, SignedLessEqual, SignedLess, SignedGreaterEqual, SignedGreater, UnsignedLessEqual, UnsignedLess, UnsignedGreaterEqual, UnsignedGreater, BinaryOp, Add, Sub, Mul, And, Or, Xor, Div, Rem, Udiv, Urem, Sar, Shr, Shl, Compare, Value, Integer, Pointer, Function}
use Rattle.il_ast.specs.Values.{modulus, signed, unsigned, same_callee}
use Rattle.il_ast.specs.Memory.{Memory, load, size_at}

-- ---- places

-- the class of the operand's place, where the result has class c
abbrev pub operand_class : UnaryOp → Class → Class
operand_class Neg c = c
operand_class Copy c = c
operand_class (Extend e) c = W
operand_class LoadLong c = L
operand_class (Load e) c = L

abbrev pub left_class : BinaryOp → Class → Class
left_class (Compare on k) c = k
left_class op c = c

abbrev pub right_class : BinaryOp → Class → Class
right_class (Compare on k) c = k
right_class Sar c = W
right_class Shr c = W
right_class Shl c = W
right_class op c = c

-- ---- integers

abbrev pub holds : Condition → Class → ℕ → ℕ → Bool
holds Equal c a b = nat_eq a b
holds NotEqual c a b = not (nat_eq a b)
holds SignedLessEqual c a b = int_le (signed c a) (signed c b)
holds SignedLess c a b = int_lt (signed c a) (signed c b)
holds SignedGreaterEqual c a b = int_le (signed c b) (signed c a)
holds SignedGreater c a b = int_lt (signed c b) (signed c a)
holds UnsignedLessEqual c a b = nat_le a b
holds UnsignedLess c a b = nat_lt a b
holds UnsignedGreaterEqual c a b = nat_le b a
holds UnsignedGreater c a b = nat_lt b a

abbrev pub truth : Bool → ℕ
truth false = 0
truth true = 1

-- how far a shift goes: the amount modulo the number of bits
abbrev pub shift_amount : Class → ℕ → ℕ
shift_amount W n = n % 32
shift_amount L n = n % 64

-- signed division is undefined by 0, and of the least number by -1
abbrev pub can_divide : Class → ℕ → ℕ → Bool
can_divide c a b = not (nat_eq b 0) && not (nat_eq a (modulus c / 2) && nat_eq b (modulus c - 1))

abbrev pub on_integers : BinaryOp → Class → ℕ → ℕ → Option ℕ
on_integers Add c a b = Some ((a + b) % modulus c)
on_integers Sub c a b = Some ((a + (modulus c - b)) % modulus c)
on_integers Mul c a b = Some ((a * b) % modulus c)
on_integers And c a b = Some (bit_and a b)
on_integers Or c a b = Some (bit_or a b)
on_integers Xor c a b = Some (bit_xor a b)
on_integers Div c a b =
    if can_divide c a b then Some (unsigned c (int_div (signed c a) (signed c b))) else None
on_integers Rem c a b =
    if can_divide c a b then Some (unsigned c (int_rem (signed c a) (signed c b))) else None
on_integers Udiv c a b = if nat_eq b 0 then None else Some (a / b)
on_integers Urem c a b = if nat_eq b 0 then None else Some (a % b)
on_integers Sar c a b = Some (unsigned c (int_shr (signed c a) (shift_amount c b)))
on_integers Shr c a b = Some (a / 2 ^ shift_amount c b)
on_integers Shl c a b = Some ((a * 2 ^ shift_amount c b) % modulus c)
on_integers (Compare on k) c a b = Some (truth (holds on k a b))

-- the low 32, 16 or 8 bits, widened to class c
abbrev pub extended : Extension → Class → ℕ → ℕ
extended SignedWord c n = unsigned c (cast_signed w32 (n % 2 ^ 32))
extended UnsignedWord c n = n % 2 ^ 32
extended SignedHalf c n = unsigned c (cast_signed w16 (n % 2 ^ 16))
extended UnsignedHalf c n = n % 2 ^ 16
extended SignedByte c n = unsigned c (cast_signed w8 (n % 2 ^ 8))
extended UnsignedByte c n = n % 2 ^ 8

abbrev pub extension_bytes : Extension → ℕ
extension_bytes SignedWord = 4
extension_bytes UnsignedWord = 4
extension_bytes SignedHalf = 2
extension_bytes UnsignedHalf = 2
extension_bytes SignedByte = 1
extension_bytes UnsignedByte = 1

-- ---- pointers and functions

-- the answer about two places that differ: equality alone is defined
abbrev pub where_different : Condition → Option Bool
where_different Equal = Some false
where_different NotEqual = Some true
where_different on = None

-- the answer about two offsets in one block: all but the signed orders are defined
abbrev pub on_offsets : Condition → ℕ → ℕ → Option Bool
on_offsets SignedLessEqual o q = None
on_offsets SignedLess o q = None
on_offsets SignedGreaterEqual o q = None
on_offsets SignedGreater o q = None
on_offsets on o q = Some (holds on L o q)

abbrev pub on_functions : Condition → Bool → Option Bool
on_functions Equal same = Some same
on_functions NotEqual same = Some (not same)
on_functions on same = None

-- the offset is at most the size of the live block; and it is below it
abbrev pub reaches : Memory → ℕ → ℕ → Bool
reaches m b o = option_map_or (λ size. nat_le o size) (size_at m b) false

abbrev pub lies_in : Memory → ℕ → ℕ → Bool
lies_in m b o = option_map_or (λ size. nat_lt o size) (size_at m b) false

abbrev pub compare_pointers : Memory → Condition → ℕ → ℕ → ℕ → ℕ → Option Bool
compare_pointers m on a o b q =
    if nat_eq a b
    then (if reaches m a o && reaches m b q then on_offsets on o q else None)
    else (if lies_in m a o && lies_in m b q then where_different on else None)

-- a pointer is never 0
abbrev pub compare_with_zero : Memory → Condition → ℕ → ℕ → ℕ → Option Bool
compare_with_zero m on n b o = if nat_eq n 0 && reaches m b o then where_different on else None

abbrev pub compare_places : Memory → Condition → Value → Value → Option Bool
compare_places m on (Pointer a o) (Pointer b q) = compare_pointers m on a o b q
compare_places m on (Pointer b o) (Integer n) = compare_with_zero m on n b o
compare_places m on (Integer n) (Pointer b o) = compare_with_zero m on n b o
compare_places m on (Function f) (Function g) = on_functions on (same_callee f g)
compare_places m on u v = None

abbrev pub on_places : Memory → BinaryOp → Value → Value → Option Value
on_places m Add (Pointer b o) (Integer n) = Some (Pointer b ((o + n) % 2 ^ 64))
on_places m Add (Integer n) (Pointer b o) = Some (Pointer b ((o + n) % 2 ^ 64))
on_places m Sub (Pointer b o) (Integer n) = Some (Pointer b ((o + (2 ^ 64 - n)) % 2 ^ 64))
on_places m Sub (Pointer a o) (Pointer b q) =
    if nat_eq a b then Some (Integer ((o + (2 ^ 64 - q % 2 ^ 64)) % 2 ^ 64)) else None
on_places m (Compare on k) u v = option_map (λ t. Integer (truth t)) (compare_places m on u v)
on_places m op u v = None

-- ---- both

-- an integer, widened
abbrev pub widened : Extension → Class → Value → Option Value
widened e c (Integer n) = Some (Integer (extended e c n))
widened e c (Pointer b o) = None
widened e c (Function f) = None

-- one operand, of the class of its place; c is the class of the result
unfoldable pub operate_one : Memory → UnaryOp → Class → Value → Option Value
operate_one m Neg c (Integer n) = Some (Integer ((modulus c - n) % modulus c))
operate_one m Copy c v = Some v
operate_one m (Extend e) c v = widened e c v
operate_one m LoadLong c at = load m 8 at
operate_one m (Load e) c at = option_and_then (widened e c) (load m (extension_bytes e) at)
operate_one m op c v = None

-- two operands, each of the class of its place
unfoldable pub operate_two : Memory → BinaryOp → Class → Value → Value → Option Value
operate_two m op c (Integer a) (Integer b) = option_map Integer (on_integers op c a b)
operate_two m op c u v = on_places m op u v
