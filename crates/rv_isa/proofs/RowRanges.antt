-- The rows of the encoding table are in the ranges of their fields.
use Rattle.std.proofs.Common.{◌<◌, lit<}
use Rattle.rv_isa.specs.Prelude.{branch_row, load_row, store_row, imm_row, shift_row, shiftw_row, reg_row, regw_row, BranchOp, Beq, Bne, Blt, Bge, Bltu, Bgeu, LoadOp, Lb, Lh, Lw, Ld, Lbu, Lhu, Lwu, StoreOp, Sb, Sh, Sw, Sd, ImmOp, Addi, Slti, Sltiu, Xori, Ori, Andi, ShiftOp, Slli, Srli, Srai, ShiftWOp, Slliw, Srliw, Sraiw, RegOp, Add, Sub, Sll, Slt, Sltu, Xor, Srl, Sra, Or, And, Mul, Mulh, Mulhsu, Mulhu, Div, Divu, Rem, Remu, RegWOp, Addw, Subw, Sllw, Srlw, Sraw, Mulw, Divw, Divuw, Remw, Remuw}

pub branch_row_fits : (op : BranchOp) → branch_row op < 8
branch_row_fits Beq = lit< tt
branch_row_fits Bne = lit< tt
branch_row_fits Blt = lit< tt
branch_row_fits Bge = lit< tt
branch_row_fits Bltu = lit< tt
branch_row_fits Bgeu = lit< tt

pub load_row_fits : (op : LoadOp) → load_row op < 8
load_row_fits Lb = lit< tt
load_row_fits Lh = lit< tt
load_row_fits Lw = lit< tt
load_row_fits Ld = lit< tt
load_row_fits Lbu = lit< tt
load_row_fits Lhu = lit< tt
load_row_fits Lwu = lit< tt

pub store_row_fits : (op : StoreOp) → store_row op < 8
store_row_fits Sb = lit< tt
store_row_fits Sh = lit< tt
store_row_fits Sw = lit< tt
store_row_fits Sd = lit< tt

pub imm_row_fits : (op : ImmOp) → imm_row op < 8
imm_row_fits Addi = lit< tt
imm_row_fits Slti = lit< tt
imm_row_fits Sltiu = lit< tt
imm_row_fits Xori = lit< tt
imm_row_fits Ori = lit< tt
imm_row_fits Andi = lit< tt

pub shift_row_fits : (op : ShiftOp) → ((shift_row op).0 < 8) × ((shift_row op).1 < 64)
shift_row_fits Slli = (lit< tt, lit< tt)
shift_row_fits Srli = (lit< tt, lit< tt)
shift_row_fits Srai = (lit< tt, lit< tt)

pub shiftw_row_fits : (op : ShiftWOp) → ((shiftw_row op).0 < 8) × ((shiftw_row op).1 < 128)
shiftw_row_fits Slliw = (lit< tt, lit< tt)
shiftw_row_fits Srliw = (lit< tt, lit< tt)
shiftw_row_fits Sraiw = (lit< tt, lit< tt)

pub reg_row_fits : (op : RegOp) → ((reg_row op).0 < 8) × ((reg_row op).1 < 128)
reg_row_fits Add = (lit< tt, lit< tt)
reg_row_fits Sub = (lit< tt, lit< tt)
reg_row_fits Sll = (lit< tt, lit< tt)
reg_row_fits Slt = (lit< tt, lit< tt)
reg_row_fits Sltu = (lit< tt, lit< tt)
reg_row_fits Xor = (lit< tt, lit< tt)
reg_row_fits Srl = (lit< tt, lit< tt)
reg_row_fits Sra = (lit< tt, lit< tt)
reg_row_fits Or = (lit< tt, lit< tt)
reg_row_fits And = (lit< tt, lit< tt)
reg_row_fits Mul = (lit< tt, lit< tt)
reg_row_fits Mulh = (lit< tt, lit< tt)
reg_row_fits Mulhsu = (lit< tt, lit< tt)
reg_row_fits Mulhu = (lit< tt, lit< tt)
reg_row_fits Div = (lit< tt, lit< tt)
reg_row_fits Divu = (lit< tt, lit< tt)
reg_row_fits Rem = (lit< tt, lit< tt)
reg_row_fits Remu = (lit< tt, lit< tt)

pub regw_row_fits : (op : RegWOp) → ((regw_row op).0 < 8) × ((regw_row op).1 < 128)
regw_row_fits Addw = (lit< tt, lit< tt)
regw_row_fits Subw = (lit< tt, lit< tt)
regw_row_fits Sllw = (lit< tt, lit< tt)
regw_row_fits Srlw = (lit< tt, lit< tt)
regw_row_fits Sraw = (lit< tt, lit< tt)
regw_row_fits Mulw = (lit< tt, lit< tt)
regw_row_fits Divw = (lit< tt, lit< tt)
regw_row_fits Divuw = (lit< tt, lit< tt)
regw_row_fits Remw = (lit< tt, lit< tt)
regw_row_fits Remuw = (lit< tt, lit< tt)
