-- Which operations with a number as their right operand are done by instructions that have the
-- number in them.
use Rattle.std.specs.Prelude.{ℕ, ◌+◌, ◌-◌, ◌*◌, ◌%◌, ◌^◌, Bool, not, ◌&&◌, nat_eq, nat_lt, if◌then◌else◌, List, [], ◌∷◌, Option, Some, None, option_and_then}
use Rattle.std.specs.Int.{trailing_zeros, w64}
use Rattle.il_ast.specs.declared.operation.Class.TheVariants.{W, L}
use Rattle.il_ast.specs.declared.operation.Condition.{Condition}
use Rattle.il_ast.specs.declared.operation.Condition.TheVariants.{Equal, NotEqual, SignedLessEqual, SignedLess, SignedGreaterEqual, SignedGreater, UnsignedLessEqual, UnsignedLess, UnsignedGreaterEqual, UnsignedGreater}
use Rattle.rv_isa.specs.declared.instruction.Instr.TheVariants.{Imm, Addiw, Shift, ShiftW, Reg, RegW}
use Rattle.rv_isa.specs.declared.instruction.ImmOp.{ImmOp}
use Rattle.rv_isa.specs.declared.instruction.ImmOp.TheVariants.{Addi, Slti, Sltiu, Xori, Ori, Andi}
use Rattle.rv_isa.specs.declared.instruction.ShiftOp.TheVariants.{Slli, Srli, Srai}
use Rattle.rv_isa.specs.declared.instruction.ShiftWOp.TheVariants.{Slliw, Srliw, Sraiw}
use Rattle.rv_isa.specs.declared.instruction.RegOp.{RegOp}
use Rattle.rv_isa.specs.declared.instruction.RegOp.TheVariants.{Add, Sub, Sll, Slt, Sltu, Xor, Srl, Sra, Or, And, Mul}
use Rattle.rv_isa.specs.declared.instruction.RegWOp.{RegWOp}
use Rattle.rv_isa.specs.declared.instruction.RegWOp.TheVariants.{Addw, Subw, Sllw, Srlw, Sraw, Mulw}
use Rattle.rv_isa.specs.declared.labelled.Item.{Item}
use Rattle.rv_isa.specs.declared.labelled.Item.TheVariants.{Plain}
use Rattle.vcode.specs.declared.place.Location.{Location}
use Rattle.vcode.specs.declared.place.Operand.{Operand}
use Rattle.vcode.specs.declared.place.Operand.TheVariants.{Number}
use Rattle.vcode.specs.declared.line.Operation.{Operation}
use Rattle.vcode.specs.declared.line.Operation.TheVariants.{Reg as RegOperation, RegW as RegWOperation, Compare}
use Rattle.vcode.specs.Prelude.{is_immediate, low}
use Rattle.operation_code.specs.Constants.{reg, amount, word_amount, add_low, negate, is_zero, is_not_zero, word}
use Rattle.operation_code.specs.declared.immediate.Form.{Form}
use Rattle.operation_code.specs.declared.immediate.Form.TheVariants.{Immediate as ByImmediate, AddWord, Shift as ByShift, ShiftWord, Compare as ByComparison}

-- ---- numbers, modulo 2^64

abbrev pub opposite : ℕ → ℕ
opposite n = (2 ^ 64 - n % 2 ^ 64) % 2 ^ 64

abbrev pub next : ℕ → ℕ
next n = (n + 1) % 2 ^ 64

-- ---- the form of an operation with the number n

abbrev pub form_if : Bool → Form → Option Form
form_if b form = if b then Some form else None

-- a sum with n, and an operation by its bits
abbrev pub immediate_form : ImmOp → ℕ → Option Form
immediate_form op n = form_if (is_immediate n) (ByImmediate op n)

abbrev pub sum_form : ℕ → Option Form
sum_form n = form_if (is_immediate n) (AddWord n)

-- whether n is a power of two that has fewer than so many zeros
abbrev pub is_power : (bits n : ℕ) → Bool
is_power bits n =
    nat_lt (trailing_zeros w64 n) bits && nat_eq n ((1 * 2 ^ trailing_zeros w64 n) % 2 ^ 64)

-- a product with a power of two is a shift by its zeros
abbrev pub product_form : ℕ → Option Form
product_form n = form_if (is_power 64 n) (ByShift Slli (trailing_zeros w64 n))

abbrev pub word_product_form : ℕ → Option Form
word_product_form n = form_if (is_power 32 n) (ShiftWord Slliw (trailing_zeros w64 n))

abbrev pub reg_form : RegOp → ℕ → Option Form
reg_form Add n = immediate_form Addi n
reg_form Sub n = immediate_form Addi (opposite n)
reg_form Slt n = immediate_form Slti n
reg_form Sltu n = immediate_form Sltiu n
reg_form Xor n = immediate_form Xori n
reg_form Or n = immediate_form Ori n
reg_form And n = immediate_form Andi n
reg_form Mul n = product_form (n % 2 ^ 64)
reg_form Sll n = Some (ByShift Slli n)
reg_form Srl n = Some (ByShift Srli n)
reg_form Sra n = Some (ByShift Srai n)
reg_form op n = None

abbrev pub regw_form : RegWOp → ℕ → Option Form
regw_form Addw n = sum_form (word n)
regw_form Subw n = sum_form (word (opposite n))
regw_form Mulw n = word_product_form (n % 2 ^ 32)
regw_form Sllw n = Some (ShiftWord Slliw n)
regw_form Srlw n = Some (ShiftWord Srliw n)
regw_form Sraw n = Some (ShiftWord Sraiw n)
regw_form op n = None

-- x is at most n where it is less than n + 1; and it is n where x - n is 0
abbrev pub compares_with : Condition → ℕ → Bool
compares_with Equal n = is_immediate (opposite n)
compares_with NotEqual n = is_immediate (opposite n)
compares_with SignedLess n = is_immediate n
compares_with SignedGreaterEqual n = is_immediate n
compares_with SignedLessEqual n = is_immediate (next n)
compares_with SignedGreater n = is_immediate (next n)
compares_with UnsignedLess n = is_immediate n
compares_with UnsignedGreaterEqual n = is_immediate n
compares_with UnsignedLessEqual n = is_immediate (next n) && not (nat_eq (next n) 0)
compares_with UnsignedGreater n = is_immediate (next n) && not (nat_eq (next n) 0)

abbrev pub comparison_form : Condition → ℕ → Option Form
comparison_form on n = form_if (compares_with on n) (ByComparison on n)

abbrev pub number_form : Operation → ℕ → Option Form
number_form (RegOperation op) n = reg_form op n
number_form (RegWOperation op) n = regw_form op n
number_form (Compare on L) n = comparison_form on n
number_form (Compare on W) n = comparison_form on (word n)

-- ---- with its operands exchanged

abbrev pub turned : Condition → Condition
turned Equal = Equal
turned NotEqual = NotEqual
turned SignedLess = SignedGreater
turned SignedGreater = SignedLess
turned SignedLessEqual = SignedGreaterEqual
turned SignedGreaterEqual = SignedLessEqual
turned UnsignedLess = UnsignedGreater
turned UnsignedGreater = UnsignedLess
turned UnsignedLessEqual = UnsignedGreaterEqual
turned UnsignedGreaterEqual = UnsignedLessEqual

abbrev pub swapped_reg : RegOp → Option Operation
swapped_reg Add = Some (RegOperation Add)
swapped_reg Xor = Some (RegOperation Xor)
swapped_reg Or = Some (RegOperation Or)
swapped_reg And = Some (RegOperation And)
swapped_reg Mul = Some (RegOperation Mul)
swapped_reg op = None

abbrev pub swapped_regw : RegWOp → Option Operation
swapped_regw Addw = Some (RegWOperation Addw)
swapped_regw Mulw = Some (RegWOperation Mulw)
swapped_regw op = None

abbrev pub swapped : Operation → Option Operation
swapped (RegOperation op) = swapped_reg op
swapped (RegWOperation op) = swapped_regw op
swapped (Compare on k) = Some (Compare (turned on) k)

-- the form that an operand on the right gives, and one on the left
abbrev pub right_form : Operation → Operand Location → Option Form
right_form op (Number n) = number_form op n
right_form op a = None

abbrev pub left_form : Operation → Operand Location → Option Form
left_form op a = option_and_then (λ o. right_form o a) (swapped op)

-- ---- the instructions of a form, on a register

abbrev pub compare_number : Condition → (d a n : ℕ) → List Item
compare_number Equal d a n =
    if nat_eq n 0 then is_zero d a ∷ [] else add_low d a (opposite n) ∷ is_zero d d ∷ []
compare_number NotEqual d a n =
    if nat_eq n 0 then is_not_zero d a ∷ [] else add_low d a (opposite n) ∷ is_not_zero d d ∷ []
compare_number SignedLess d a n = Plain (Imm Slti (reg d) (reg a) (low n)) ∷ []
compare_number SignedGreaterEqual d a n = Plain (Imm Slti (reg d) (reg a) (low n)) ∷ negate d ∷ []
compare_number SignedLessEqual d a n = Plain (Imm Slti (reg d) (reg a) (low (next n))) ∷ []
compare_number SignedGreater d a n = Plain (Imm Slti (reg d) (reg a) (low (next n))) ∷ negate d ∷ []
compare_number UnsignedLess d a n = Plain (Imm Sltiu (reg d) (reg a) (low n)) ∷ []
compare_number UnsignedGreaterEqual d a n =
    Plain (Imm Sltiu (reg d) (reg a) (low n)) ∷ negate d ∷ []
compare_number UnsignedLessEqual d a n = Plain (Imm Sltiu (reg d) (reg a) (low (next n))) ∷ []
compare_number UnsignedGreater d a n =
    Plain (Imm Sltiu (reg d) (reg a) (low (next n))) ∷ negate d ∷ []

abbrev pub form_items : Form → (d a : ℕ) → List Item
form_items (ByImmediate op n) d a = Plain (Imm op (reg d) (reg a) (low n)) ∷ []
form_items (AddWord n) d a = Plain (Addiw (reg d) (reg a) (low n)) ∷ []
form_items (ByShift op n) d a = Plain (Shift op (reg d) (reg a) (amount n)) ∷ []
form_items (ShiftWord op n) d a = Plain (ShiftW op (reg d) (reg a) (word_amount n)) ∷ []
form_items (ByComparison on n) d a = compare_number on d a n

-- ---- operations on two registers

-- a comparison of two registers by all 64 bits
abbrev pub compare_items : Condition → (d a b : ℕ) → List Item
compare_items Equal d a b = Plain (Reg Sub (reg d) (reg a) (reg b)) ∷ is_zero d d ∷ []
compare_items NotEqual d a b = Plain (Reg Sub (reg d) (reg a) (reg b)) ∷ is_not_zero d d ∷ []
compare_items SignedLess d a b = Plain (Reg Slt (reg d) (reg a) (reg b)) ∷ []
compare_items SignedGreater d a b = Plain (Reg Slt (reg d) (reg b) (reg a)) ∷ []
compare_items SignedLessEqual d a b = Plain (Reg Slt (reg d) (reg b) (reg a)) ∷ negate d ∷ []
compare_items SignedGreaterEqual d a b = Plain (Reg Slt (reg d) (reg a) (reg b)) ∷ negate d ∷ []
compare_items UnsignedLess d a b = Plain (Reg Sltu (reg d) (reg a) (reg b)) ∷ []
compare_items UnsignedGreater d a b = Plain (Reg Sltu (reg d) (reg b) (reg a)) ∷ []
compare_items UnsignedLessEqual d a b = Plain (Reg Sltu (reg d) (reg b) (reg a)) ∷ negate d ∷ []
compare_items UnsignedGreaterEqual d a b = Plain (Reg Sltu (reg d) (reg a) (reg b)) ∷ negate d ∷ []

-- the operation on two registers
abbrev pub operation_items : Operation → (d a b : ℕ) → List Item
operation_items (RegOperation op) d a b = Plain (Reg op (reg d) (reg a) (reg b)) ∷ []
operation_items (RegWOperation op) d a b = Plain (RegW op (reg d) (reg a) (reg b)) ∷ []
operation_items (Compare on k) d a b = compare_items on d a b
