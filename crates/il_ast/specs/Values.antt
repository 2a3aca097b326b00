-- Numbers of 32 and 64 bits, their signed reading and their bytes; what a place of a class takes of
-- a value (QBE IL, "Types").
use Rattle.std.specs.Prelude.{ℕ, zero, suc, ◌+◌, ◌*◌, ◌/◌, ◌%◌, ◌^◌, ℤ, Bool, true, false, nat_eq, ◌&&◌, List, [], ◌∷◌, Option, Some, None}
use Rattle.std.specs.Int.{Width, w32, w64, cast_signed, cast_unsigned}
use Rattle.il_ast.specs.Types.{Class, W, L, Size, Byte, Half, Word, Long, Value, Integer, Pointer, Function, Callee, Defined, SystemWrite, SystemExit}

abbrev pub width : Class → Width
width W = w32
width L = w64

-- one more than the largest number of the class
abbrev pub modulus : Class → ℕ
modulus W = 2 ^ 32
modulus L = 2 ^ 64

-- the number with these bits as a signed one, and the bits of a signed number
abbrev pub signed : Class → ℕ → ℤ
signed c n = cast_signed (width c) n

abbrev pub unsigned : Class → ℤ → ℕ
unsigned c z = cast_unsigned (width c) z

-- the lowest k bytes of a number, the lowest first
abbrev pub bytes_of : ℕ → ℕ → List ℕ
bytes_of zero n = []
bytes_of (suc k) n = n % 256 ∷ bytes_of k (n / 256)

-- the number that has these bytes, the lowest first
abbrev pub number_of : List ℕ → ℕ
number_of [] = 0
number_of (b ∷ bs) = b + 256 * number_of bs

-- how many bytes
abbrev pub byte_count : Size → ℕ
byte_count Byte = 1
byte_count Half = 2
byte_count Word = 4
byte_count Long = 8

-- a `w` place takes the low 32 bits of an integer, and no other value; an `l` place takes any value
abbrev pub in_place : Class → Value → Option Value
in_place W (Integer n) = Some (Integer (n % 2 ^ 32))
in_place W (Pointer b o) = None
in_place W (Function f) = None
in_place L v = Some v

-- ---- tests of equality

abbrev pub same_class : Class → Class → Bool
same_class W W = true
same_class W L = false
same_class L W = false
same_class L L = true

abbrev pub same_callee : Callee → Callee → Bool
same_callee (Defined f) (Defined g) = nat_eq f g
same_callee SystemWrite SystemWrite = true
same_callee SystemExit SystemExit = true
same_callee f g = false

abbrev pub same_value : Value → Value → Bool
same_value (Integer a) (Integer b) = nat_eq a b
same_value (Pointer a o) (Pointer b q) = nat_eq a b && nat_eq o q
same_value (Function f) (Function g) = same_callee f g
same_value u v = false
