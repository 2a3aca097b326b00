-- The words of operations (QBE IL reference, "Instructions").
use Rattle.std.specs.Prelude.{ℕ, List, ◌++◌, codes}
use Rattle.il_ast.specs.declared.operation.Class.{Class}
use Rattle.il_ast.specs.declared.operation.Class.TheVariants.{W, L}
use Rattle.il_ast.specs.declared.operation.Size.{Size}
use Rattle.il_ast.specs.declared.operation.Size.TheVariants.{Byte, Half, Word, Long}
use Rattle.il_ast.specs.declared.operation.Extension.{Extension}
use Rattle.il_ast.specs.declared.operation.Extension.TheVariants.{SignedWord, UnsignedWord, SignedHalf, UnsignedHalf, SignedByte, UnsignedByte}
use Rattle.il_ast.specs.declared.operation.UnaryOp.{UnaryOp}
use Rattle.il_ast.specs.declared.operation.UnaryOp.TheVariants.{Neg, Copy, Extend, LoadLong, Load}
use Rattle.il_ast.specs.declared.operation.Condition.{Condition}
use Rattle.il_ast.specs.declared.operation.Condition.TheVariants.{Equal, NotEqual, SignedLessEqual, SignedLess, SignedGreaterEqual, SignedGreater, UnsignedLessEqual, UnsignedLess, UnsignedGreaterEqual, UnsignedGreater}
use Rattle.il_ast.specs.declared.operation.BinaryOp.{BinaryOp}
use Rattle.il_ast.specs.declared.operation.BinaryOp.TheVariants.{Add, Sub, Mul, And, Or, Xor, Div, Rem, Udiv, Urem, Sar, Shr, Shl, Compare}
use Rattle.il_ast.specs.declared.operation.Alignment.{Alignment}
use Rattle.il_ast.specs.declared.operation.Alignment.TheVariants.{Four, Eight, Sixteen}

abbrev pub class_word : Class → List ℕ
class_word W = codes "w"
class_word L = codes "l"

abbrev pub size_word : Size → List ℕ
size_word Byte = codes "b"
size_word Half = codes "h"
size_word Word = codes "w"
size_word Long = codes "l"

-- how the width and the sign are written in the words of extensions and loads
abbrev pub extension_word : Extension → List ℕ
extension_word SignedWord = codes "sw"
extension_word UnsignedWord = codes "uw"
extension_word SignedHalf = codes "sh"
extension_word UnsignedHalf = codes "uh"
extension_word SignedByte = codes "sb"
extension_word UnsignedByte = codes "ub"

-- the word of an operation with one operand; `loadw` stands for `loadsw` too
abbrev pub unary_word : UnaryOp → List ℕ
unary_word Neg = codes "neg"
unary_word Copy = codes "copy"
unary_word (Extend e) = codes "ext" ++ extension_word e
unary_word LoadLong = codes "loadl"
unary_word (Load e) = codes "load" ++ extension_word e

abbrev pub condition_word : Condition → List ℕ
condition_word Equal = codes "eq"
condition_word NotEqual = codes "ne"
condition_word SignedLessEqual = codes "sle"
condition_word SignedLess = codes "slt"
condition_word SignedGreaterEqual = codes "sge"
condition_word SignedGreater = codes "sgt"
condition_word UnsignedLessEqual = codes "ule"
condition_word UnsignedLess = codes "ult"
condition_word UnsignedGreaterEqual = codes "uge"
condition_word UnsignedGreater = codes "ugt"

-- the word of an operation with two operands
abbrev pub binary_word : BinaryOp → List ℕ
binary_word Add = codes "add"
binary_word Sub = codes "sub"
binary_word Mul = codes "mul"
binary_word And = codes "and"
binary_word Or = codes "or"
binary_word Xor = codes "xor"
binary_word Div = codes "div"
binary_word Rem = codes "rem"
binary_word Udiv = codes "udiv"
binary_word Urem = codes "urem"
binary_word Sar = codes "sar"
binary_word Shr = codes "shr"
binary_word Shl = codes "shl"
binary_word (Compare condition class) = codes "c" ++ condition_word condition ++ class_word class

abbrev pub alloc_word : Alignment → List ℕ
alloc_word Four = codes "alloc4"
alloc_word Eight = codes "alloc8"
alloc_word Sixteen = codes "alloc16"

abbrev pub store_word : Size → List ℕ
store_word size = codes "store" ++ size_word size
