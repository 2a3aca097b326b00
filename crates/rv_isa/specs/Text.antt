-- The text of an instruction, in the manner of the manual's assembly listings: registers as x0 to
-- x31, numbers decimal.
use Rattle.std.specs.Prelude.{ℕ, List, ◌++◌, codes, ℤ}
use Rattle.std.specs.Fmt.{decimal, signed_decimal}
use Rattle.rv_isa.specs.Types.{Register, Instr, Lui, Auipc, Jal, Jalr, Branch, Load, Store, Imm, Addiw, Shift, ShiftW, Reg, RegW, Fence, Ecall, Ebreak, BranchOp, Beq, Bne, Blt, Bge, Bltu, Bgeu, LoadOp, Lb, Lh, Lw, Ld, Lbu, Lhu, Lwu, StoreOp, Sb, Sh, Sw, Sd, ImmOp, Addi, Slti, Sltiu, Xori, Ori, Andi, ShiftOp, Slli, Srli, Srai, ShiftWOp, Slliw, Srliw, Sraiw, RegOp, Add, Sub, Sll, Slt, Sltu, Xor, Srl, Sra, Or, And, Mul, Mulh, Mulhsu, Mulhu, Div, Divu, Rem, Remu, RegWOp, Addw, Subw, Sllw, Srlw, Sraw, Mulw, Divw, Divuw, Remw, Remuw}

-- ---- mnemonics

abbrev pub branch_name : BranchOp → List ℕ
branch_name Beq = codes "beq"
branch_name Bne = codes "bne"
branch_name Blt = codes "blt"
branch_name Bge = codes "bge"
branch_name Bltu = codes "bltu"
branch_name Bgeu = codes "bgeu"

abbrev pub load_name : LoadOp → List ℕ
load_name Lb = codes "lb"
load_name Lh = codes "lh"
load_name Lw = codes "lw"
load_name Ld = codes "ld"
load_name Lbu = codes "lbu"
load_name Lhu = codes "lhu"
load_name Lwu = codes "lwu"

abbrev pub store_name : StoreOp → List ℕ
store_name Sb = codes "sb"
store_name Sh = codes "sh"
store_name Sw = codes "sw"
store_name Sd = codes "sd"

abbrev pub imm_name : ImmOp → List ℕ
imm_name Addi = codes "addi"
imm_name Slti = codes "slti"
imm_name Sltiu = codes "sltiu"
imm_name Xori = codes "xori"
imm_name Ori = codes "ori"
imm_name Andi = codes "andi"

abbrev pub shift_name : ShiftOp → List ℕ
shift_name Slli = codes "slli"
shift_name Srli = codes "srli"
shift_name Srai = codes "srai"

abbrev pub shiftw_name : ShiftWOp → List ℕ
shiftw_name Slliw = codes "slliw"
shiftw_name Srliw = codes "srliw"
shiftw_name Sraiw = codes "sraiw"

abbrev pub reg_name : RegOp → List ℕ
reg_name Add = codes "add"
reg_name Sub = codes "sub"
reg_name Sll = codes "sll"
reg_name Slt = codes "slt"
reg_name Sltu = codes "sltu"
reg_name Xor = codes "xor"
reg_name Srl = codes "srl"
reg_name Sra = codes "sra"
reg_name Or = codes "or"
reg_name And = codes "and"
reg_name Mul = codes "mul"
reg_name Mulh = codes "mulh"
reg_name Mulhsu = codes "mulhsu"
reg_name Mulhu = codes "mulhu"
reg_name Div = codes "div"
reg_name Divu = codes "divu"
reg_name Rem = codes "rem"
reg_name Remu = codes "remu"

abbrev pub regw_name : RegWOp → List ℕ
regw_name Addw = codes "addw"
regw_name Subw = codes "subw"
regw_name Sllw = codes "sllw"
regw_name Srlw = codes "srlw"
regw_name Sraw = codes "sraw"
regw_name Mulw = codes "mulw"
regw_name Divw = codes "divw"
regw_name Divuw = codes "divuw"
regw_name Remw = codes "remw"
regw_name Remuw = codes "remuw"

-- ---- shapes of operands

abbrev pub register_text : Register → List ℕ
register_text r = codes "x" ++ decimal r.number

-- `add x10, x11, x12`
abbrev pub registers_text : (name : List ℕ) (rd rs1 rs2 : Register) → List ℕ
registers_text name rd rs1 rs2 =
    name ++ codes " " ++ register_text rd ++ codes ", " ++ register_text rs1 ++ codes ", "
    ++ register_text rs2

-- `addi x2, x2, -16`
abbrev pub immediate_text : (name : List ℕ) (rd rs1 : Register) (value : ℤ) → List ℕ
immediate_text name rd rs1 value =
    name ++ codes " " ++ register_text rd ++ codes ", " ++ register_text rs1 ++ codes ", "
    ++ signed_decimal value

-- `srai x10, x10, 63`
abbrev pub shift_text : (name : List ℕ) (rd rs1 : Register) (amount : ℕ) → List ℕ
shift_text name rd rs1 amount =
    name ++ codes " " ++ register_text rd ++ codes ", " ++ register_text rs1 ++ codes ", "
    ++ decimal amount

-- `ld x1, 8(x2)`
abbrev pub address_text : (name : List ℕ) (value base : Register) (offset : ℤ) → List ℕ
address_text name value base offset =
    name ++ codes " " ++ register_text value ++ codes ", " ++ signed_decimal offset ++ codes "("
    ++ register_text base ++ codes ")"

-- `jal x0, -4`
abbrev pub jump_text : (rd : Register) (offset : ℤ) → List ℕ
jump_text rd offset = codes "jal " ++ register_text rd ++ codes ", " ++ signed_decimal offset

-- `lui x5, 74565`
abbrev pub upper_text : (name : List ℕ) (rd : Register) (field : ℕ) → List ℕ
upper_text name rd field = name ++ codes " " ++ register_text rd ++ codes ", " ++ decimal field

abbrev pub text_of : Instr → List ℕ
text_of (Lui rd field) = upper_text (codes "lui") rd field.value
text_of (Auipc rd field) = upper_text (codes "auipc") rd field.value
text_of (Jal rd offset) = jump_text rd offset.value
text_of (Jalr rd rs1 offset) = address_text (codes "jalr") rd rs1 offset.value
text_of (Branch op rs1 rs2 offset) = immediate_text (branch_name op) rs1 rs2 offset.value
text_of (Load op rd rs1 offset) = address_text (load_name op) rd rs1 offset.value
text_of (Store op rs1 rs2 offset) = address_text (store_name op) rs2 rs1 offset.value
text_of (Imm op rd rs1 immediate) = immediate_text (imm_name op) rd rs1 immediate.value
text_of (Addiw rd rs1 immediate) = immediate_text (codes "addiw") rd rs1 immediate.value
text_of (Shift op rd rs1 amount) = shift_text (shift_name op) rd rs1 amount.value
text_of (ShiftW op rd rs1 amount) = shift_text (shiftw_name op) rd rs1 amount.value
text_of (Reg op rd rs1 rs2) = registers_text (reg_name op) rd rs1 rs2
text_of (RegW op rd rs1 rs2) = registers_text (regw_name op) rd rs1 rs2
text_of Fence = codes "fence"
text_of Ecall = codes "ecall"
text_of Ebreak = codes "ebreak"
