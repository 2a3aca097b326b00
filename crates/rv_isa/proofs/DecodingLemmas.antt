-- `candidate` gives back the instruction of a word: one lemma a kind.
use Rattle.std.proofs.Common.{◌≡◌, ℕ, ◌+◌, ◌*◌, ◌/◌, ◌%◌, ◌^◌, ◌<◌, arith, refl, ap, pos, negsuc, ◌∙◌, ℤ, ◌≤ℤ◌, ◌<ℤ◌, unsigned_abs}
use Rattle.std.proofs.lemmas.Int.{ints}
use Rattle.bits.specs.Words.{Fits12}
use Rattle.rv_isa.specs.Prelude.{part, low_bits, signed, word, branch_row, load_row, store_row, imm_row, shift_row, shiftw_row, reg_row, regw_row, rd_of, rs1_of, rs2_of, s_bits, b_half, j_half, op_imm, op_imm_32, i_immediate, s_immediate, b_offset, j_offset, upper_of, amount_of, word_amount_of, branch_op, load_op, store_op, right_shift_op, right_shiftw_op, reg_op, regw_op, candidate, candidate_at, Register, Immediate, BranchOffset, JumpOffset, UpperField, Amount, WordAmount, Lui, Auipc, Jal, Jalr, Branch, Load, Store, Imm, Addiw, Shift, ShiftW, Reg, RegW, Fence, Ecall, Ebreak, BranchOp, Beq, Bne, Blt, Bge, Bltu, Bgeu, LoadOp, Lb, Lh, Lw, Ld, Lbu, Lhu, Lwu, StoreOp, Sb, Sh, Sw, Sd, ImmOp, Addi, Slti, Sltiu, Xori, Ori, Andi, ShiftOp, Slli, Srli, Srai, ShiftWOp, Slliw, Srliw, Sraiw, RegOp, Add, Sub, Sll, Slt, Sltu, Xor, Srl, Sra, Or, And, Mul, Mulh, Mulhsu, Mulhu, Div, Divu, Rem, Remu, RegWOp, Addw, Subw, Sllw, Srlw, Sraw, Mulw, Divw, Divuw, Remw, Remuw}
use Rattle.rv_isa.proofs.FieldLemmas.{Reads}
use Rattle.rv_isa.proofs.Same.{same_register, same_immediate, same_upper, same_amount, same_word_amount, same_branch_offset, same_jump_offset}

pub lui_back : (w : ℕ) (rd : Register) (field : UpperField)
    → Reads w 0x37 rd.number (part field.value 2 0) (part field.value 7 3) (part field.value 12 8) (part field.value 19 13)
    → candidate w ≡ Lui rd field
unfolding candidate_at
lui_back w rd field r =
    let fits : field.value < 2 ^ 20 = field.in_range in
    let at_rd : rd_of w ≡ rd = same_register (rd_of w) rd r.is11_7 in
    let at_field : upper_of w ≡ field = same_upper (upper_of w) field (omega (arith, r.is31_12)) in
    rw r.is6_0 (cc)

load_op_back : (op : LoadOp) → load_op (load_row op) ≡ op
load_op_back Lb = refl
load_op_back Lh = refl
load_op_back Lw = refl
load_op_back Ld = refl
load_op_back Lbu = refl
load_op_back Lhu = refl
load_op_back Lwu = refl

-- the immediate of 12 bits that was taken apart
twelve_back : (z : ℤ) (n : ℕ) → Fits12 z → n ≡ part (low_bits 12 z) 4 0 + part (low_bits 12 z) 11 5 * 32 → signed 12 n ≡ z
twelve_back z n h e = grind (arith, ints)

pub load_back : (w : ℕ) (op : LoadOp) (rd rs1 : Register) (z : Immediate)
    → Reads w 0x03 rd.number (load_row op) rs1.number (part (low_bits 12 z.value) 4 0) (part (low_bits 12 z.value) 11 5)
    → candidate w ≡ Load op rd rs1 z
unfolding candidate_at
load_back w op rd rs1 z r =
    let at_rd : rd_of w ≡ rd = same_register (rd_of w) rd r.is11_7 in
    let at_rs1 : rs1_of w ≡ rs1 = same_register (rs1_of w) rs1 r.is19_15 in
    let at_z : i_immediate w ≡ z = same_immediate (i_immediate w) z (twelve_back z.value (part w 31 20) z.in_range r.is31_20) in
    let at_op : load_op (part w 14 12) ≡ op = ap load_op r.is14_12 ∙ load_op_back op in
    rw r.is6_0 (cc)

branch_op_back : (op : BranchOp) → branch_op (branch_row op) ≡ op
branch_op_back Beq = refl
branch_op_back Bne = refl
branch_op_back Blt = refl
branch_op_back Bge = refl
branch_op_back Bltu = refl
branch_op_back Bgeu = refl

store_op_back : (op : StoreOp) → store_op (store_row op) ≡ op
store_op_back Sb = refl
store_op_back Sh = refl
store_op_back Sw = refl
store_op_back Sd = refl

reg_op_back : (op : RegOp) → reg_op (reg_row op).0 (reg_row op).1 ≡ op
reg_op_back Add = refl
reg_op_back Sub = refl
reg_op_back Sll = refl
reg_op_back Slt = refl
reg_op_back Sltu = refl
reg_op_back Xor = refl
reg_op_back Srl = refl
reg_op_back Sra = refl
reg_op_back Or = refl
reg_op_back And = refl
reg_op_back Mul = refl
reg_op_back Mulh = refl
reg_op_back Mulhsu = refl
reg_op_back Mulhu = refl
reg_op_back Div = refl
reg_op_back Divu = refl
reg_op_back Rem = refl
reg_op_back Remu = refl

regw_op_back : (op : RegWOp) → regw_op (regw_row op).0 (regw_row op).1 ≡ op
regw_op_back Addw = refl
regw_op_back Subw = refl
regw_op_back Sllw = refl
regw_op_back Srlw = refl
regw_op_back Sraw = refl
regw_op_back Mulw = refl
regw_op_back Divw = refl
regw_op_back Divuw = refl
regw_op_back Remw = refl
regw_op_back Remuw = refl

pub auipc_back : (w : ℕ) (rd : Register) (field : UpperField)
    → Reads w 0x17 rd.number (part field.value 2 0) (part field.value 7 3) (part field.value 12 8) (part field.value 19 13)
    → candidate w ≡ Auipc rd field
unfolding candidate_at
auipc_back w rd field r =
    let fits : field.value < 2 ^ 20 = field.in_range in
    let at_rd : rd_of w ≡ rd = same_register (rd_of w) rd r.is11_7 in
    let at_field : upper_of w ≡ field = same_upper (upper_of w) field (omega (arith, r.is31_12)) in
    rw r.is6_0 (cc)

-- ---- offsets: their bits are even and give the offset back

thirteen_even : (z : ℤ) → unsigned_abs z % 2 ≡ 0 → low_bits 13 z % 2 ≡ 0
thirteen_even z h = grind (arith, ints)

thirteen_back : (z : ℤ) → negsuc 4095 ≤ℤ z → z <ℤ pos 4096 → signed 13 (low_bits 13 z) ≡ z
thirteen_back z low high = grind (arith, ints)

twenty_one_even : (z : ℤ) → unsigned_abs z % 2 ≡ 0 → low_bits 21 z % 2 ≡ 0
twenty_one_even z h = grind (arith, ints)

twenty_one_back : (z : ℤ) → negsuc 1048575 ≤ℤ z → z <ℤ pos 1048576 → signed 21 (low_bits 21 z) ≡ z
twenty_one_back z low high = grind (arith, ints)

pub low_bits_13_below : (z : ℤ) → low_bits 13 z < 8192
low_bits_13_below z = grind (arith, ints)

pub low_bits_21_below : (z : ℤ) → low_bits 21 z < 2097152
low_bits_21_below z = grind (arith, ints)

-- a branch's half offset, from the fields that hold it
b_half_back : (n w rd funct7 : ℕ) → n % 2 ≡ 0 → n < 8192 → rd ≡ part n 4 1 * 2 + part n 11 11 → funct7 ≡ part n 12 12 * 2 ^ 6 + part n 10 5
    → part w 31 31 ≡ funct7 / 64 → part w 7 7 ≡ rd % 2 → part w 30 25 ≡ funct7 % 64 → part w 11 8 ≡ rd / 2 → b_half w * 2 ≡ n
b_half_back n w rd funct7 even below at_rd at_funct7 e1 e2 e3 e4 = omega arith

-- a jump's half offset, from the fields that hold it
j_half_back : (n w funct3 rs1 rs2 funct7 : ℕ) → n % 2 ≡ 0 → n < 2097152 → funct3 ≡ part n 14 12 → rs1 ≡ part n 19 15
    → rs2 ≡ part n 4 1 * 2 + part n 11 11 → funct7 ≡ part n 20 20 * 2 ^ 6 + part n 10 5
    → part w 31 31 ≡ funct7 / 64 → part w 19 12 ≡ funct3 + rs1 * 8 → part w 20 20 ≡ rs2 % 2 → part w 30 21 ≡ rs2 / 2 + funct7 % 64 * 16
    → j_half w * 2 ≡ n
j_half_back n w funct3 rs1 rs2 funct7 even below at_funct3 at_rs1 at_rs2 at_funct7 e1 e2 e3 e4 = omega arith

pub jal_back : (w : ℕ) (rd : Register) (z : JumpOffset) (n : ℕ) → n ≡ low_bits 21 z.value
    → Reads w 0x6f rd.number (part n 14 12) (part n 19 15) (part n 4 1 * 2 + part n 11 11) (part n 20 20 * 2 ^ 6 + part n 10 5)
    → candidate w ≡ Jal rd z
unfolding candidate_at
jal_back w rd z n e r =
    let even : n % 2 ≡ 0 = rw e (twenty_one_even z.value z.even) in
    let below : n < 2097152 = rw e (low_bits_21_below z.value) in
    let half : j_half w * 2 ≡ n = j_half_back n w _ _ _ _ even below refl refl refl refl r.is31_31 r.is19_12 r.is20_20 r.is30_21 in
    let at_value : signed 21 (j_half w * 2) ≡ z.value = ap (signed 21) (half ∙ e) ∙ twenty_one_back z.value z.at_least z.at_most in
    let at_rd : rd_of w ≡ rd = same_register (rd_of w) rd r.is11_7 in
    let at_z : j_offset w ≡ z = same_jump_offset (j_offset w) z at_value in
    rw r.is6_0 (cc)

pub branch_back : (w : ℕ) (op : BranchOp) (rs1 rs2 : Register) (z : BranchOffset) (n : ℕ) → n ≡ low_bits 13 z.value
    → Reads w 0x63 (part n 4 1 * 2 + part n 11 11) (branch_row op) rs1.number rs2.number (part n 12 12 * 2 ^ 6 + part n 10 5)
    → candidate w ≡ Branch op rs1 rs2 z
unfolding candidate_at
branch_back w op rs1 rs2 z n e r =
    let even : n % 2 ≡ 0 = rw e (thirteen_even z.value z.even) in
    let below : n < 8192 = rw e (low_bits_13_below z.value) in
    let half : b_half w * 2 ≡ n = b_half_back n w _ _ even below refl refl r.is31_31 r.is7_7 r.is30_25 r.is11_8 in
    let at_value : signed 13 (b_half w * 2) ≡ z.value = ap (signed 13) (half ∙ e) ∙ thirteen_back z.value z.at_least z.at_most in
    let at_op : branch_op (part w 14 12) ≡ op = ap branch_op r.is14_12 ∙ branch_op_back op in
    let at_rs1 : rs1_of w ≡ rs1 = same_register (rs1_of w) rs1 r.is19_15 in
    let at_rs2 : rs2_of w ≡ rs2 = same_register (rs2_of w) rs2 r.is24_20 in
    let at_z : b_offset w ≡ z = same_branch_offset (b_offset w) z at_value in
    rw r.is6_0 (cc)

pub jalr_back : (w : ℕ) (rd rs1 : Register) (z : Immediate)
    → Reads w 0x67 rd.number 0 rs1.number (part (low_bits 12 z.value) 4 0) (part (low_bits 12 z.value) 11 5)
    → candidate w ≡ Jalr rd rs1 z
unfolding candidate_at
jalr_back w rd rs1 z r =
    let at_rd : rd_of w ≡ rd = same_register (rd_of w) rd r.is11_7 in
    let at_rs1 : rs1_of w ≡ rs1 = same_register (rs1_of w) rs1 r.is19_15 in
    let at_z : i_immediate w ≡ z = same_immediate (i_immediate w) z (twelve_back z.value (part w 31 20) z.in_range r.is31_20) in
    rw r.is6_0 (cc)

pub store_back : (w : ℕ) (op : StoreOp) (rs1 rs2 : Register) (z : Immediate)
    → Reads w 0x23 (part (low_bits 12 z.value) 4 0) (store_row op) rs1.number rs2.number (part (low_bits 12 z.value) 11 5)
    → candidate w ≡ Store op rs1 rs2 z
unfolding candidate_at
store_back w op rs1 rs2 z r =
    let bits : s_bits w ≡ part (low_bits 12 z.value) 4 0 + part (low_bits 12 z.value) 11 5 * 32 = omega (arith, r.is31_25, r.is11_7) in
    let at_op : store_op (part w 14 12) ≡ op = ap store_op r.is14_12 ∙ store_op_back op in
    let at_rs1 : rs1_of w ≡ rs1 = same_register (rs1_of w) rs1 r.is19_15 in
    let at_rs2 : rs2_of w ≡ rs2 = same_register (rs2_of w) rs2 r.is24_20 in
    let at_z : s_immediate w ≡ z = same_immediate (s_immediate w) z (twelve_back z.value (s_bits w) z.in_range bits) in
    rw r.is6_0 (cc)

-- an immediate's funct3 is neither 1 nor 5, those of the shifts
not_shift : (w : ℕ) (op : ImmOp) → op_imm w (imm_row op) ≡ Imm op (rd_of w) (rs1_of w) (i_immediate w)
not_shift w Addi = refl
not_shift w Slti = refl
not_shift w Sltiu = refl
not_shift w Xori = refl
not_shift w Ori = refl
not_shift w Andi = refl

pub imm_back : (w : ℕ) (op : ImmOp) (rd rs1 : Register) (z : Immediate)
    → Reads w 0x13 rd.number (imm_row op) rs1.number (part (low_bits 12 z.value) 4 0) (part (low_bits 12 z.value) 11 5)
    → candidate w ≡ Imm op rd rs1 z
unfolding candidate_at
imm_back w op rd rs1 z r =
    let at_rd : rd_of w ≡ rd = same_register (rd_of w) rd r.is11_7 in
    let at_rs1 : rs1_of w ≡ rs1 = same_register (rs1_of w) rs1 r.is19_15 in
    let at_z : i_immediate w ≡ z = same_immediate (i_immediate w) z (twelve_back z.value (part w 31 20) z.in_range r.is31_20) in
    let at_op : op_imm w (part w 14 12) ≡ Imm op (rd_of w) (rs1_of w) (i_immediate w) = ap (op_imm w) r.is14_12 ∙ not_shift w op in
    rw r.is6_0 (cc)

pub addiw_back : (w : ℕ) (rd rs1 : Register) (z : Immediate)
    → Reads w 0x1b rd.number 0 rs1.number (part (low_bits 12 z.value) 4 0) (part (low_bits 12 z.value) 11 5)
    → candidate w ≡ Addiw rd rs1 z
unfolding candidate_at
addiw_back w rd rs1 z r =
    let at_rd : rd_of w ≡ rd = same_register (rd_of w) rd r.is11_7 in
    let at_rs1 : rs1_of w ≡ rs1 = same_register (rs1_of w) rs1 r.is19_15 in
    let at_z : i_immediate w ≡ z = same_immediate (i_immediate w) z (twelve_back z.value (part w 31 20) z.in_range r.is31_20) in
    let at_op : op_imm_32 w (part w 14 12) ≡ Addiw (rd_of w) (rs1_of w) (i_immediate w) = ap (op_imm_32 w) r.is14_12 in
    rw r.is6_0 (cc)

-- a shift is told by its funct3 and the bits above its amount
shift_row_back : (w : ℕ) (op : ShiftOp) → part w 31 26 ≡ (shift_row op).1
    → op_imm w (shift_row op).0 ≡ Shift op (rd_of w) (rs1_of w) (amount_of w)
shift_row_back w Slli e = refl
shift_row_back w Srli e = ap (λ n. Shift (right_shift_op n) (rd_of w) (rs1_of w) (amount_of w)) e
shift_row_back w Srai e = ap (λ n. Shift (right_shift_op n) (rd_of w) (rs1_of w) (amount_of w)) e

pub shift_back : (w : ℕ) (op : ShiftOp) (rd rs1 : Register) (amount : Amount)
    → Reads w 0x13 rd.number (shift_row op).0 rs1.number (part amount.value 4 0) ((shift_row op).1 * 2 + part amount.value 5 5)
    → candidate w ≡ Shift op rd rs1 amount
unfolding candidate_at
shift_back w op rd rs1 amount r =
    let fits : amount.value < 64 = amount.in_range in
    let at_rd : rd_of w ≡ rd = same_register (rd_of w) rd r.is11_7 in
    let at_rs1 : rs1_of w ≡ rs1 = same_register (rs1_of w) rs1 r.is19_15 in
    let at_amount : amount_of w ≡ amount = same_amount (amount_of w) amount (omega (arith, r.is25_20)) in
    let high : part w 31 26 ≡ (shift_row op).1 = omega (arith, r.is31_26) in
    let at_op : op_imm w (part w 14 12) ≡ Shift op (rd_of w) (rs1_of w) (amount_of w) = ap (op_imm w) r.is14_12 ∙ shift_row_back w op high in
    rw r.is6_0 (cc)

shiftw_row_back : (w : ℕ) (op : ShiftWOp) → part w 31 25 ≡ (shiftw_row op).1
    → op_imm_32 w (shiftw_row op).0 ≡ ShiftW op (rd_of w) (rs1_of w) (word_amount_of w)
shiftw_row_back w Slliw e = refl
shiftw_row_back w Srliw e = ap (λ n. ShiftW (right_shiftw_op n) (rd_of w) (rs1_of w) (word_amount_of w)) e
shiftw_row_back w Sraiw e = ap (λ n. ShiftW (right_shiftw_op n) (rd_of w) (rs1_of w) (word_amount_of w)) e

pub shiftw_back : (w : ℕ) (op : ShiftWOp) (rd rs1 : Register) (amount : WordAmount)
    → Reads w 0x1b rd.number (shiftw_row op).0 rs1.number amount.value (shiftw_row op).1
    → candidate w ≡ ShiftW op rd rs1 amount
unfolding candidate_at
shiftw_back w op rd rs1 amount r =
    let at_rd : rd_of w ≡ rd = same_register (rd_of w) rd r.is11_7 in
    let at_rs1 : rs1_of w ≡ rs1 = same_register (rs1_of w) rs1 r.is19_15 in
    let at_amount : word_amount_of w ≡ amount = same_word_amount (word_amount_of w) amount r.is24_20 in
    let at_op : op_imm_32 w (part w 14 12) ≡ ShiftW op (rd_of w) (rs1_of w) (word_amount_of w) = ap (op_imm_32 w) r.is14_12 ∙ shiftw_row_back w op r.is31_25 in
    rw r.is6_0 (cc)

pub reg_back : (w : ℕ) (op : RegOp) (rd rs1 rs2 : Register)
    → Reads w 0x33 rd.number (reg_row op).0 rs1.number rs2.number (reg_row op).1 → candidate w ≡ Reg op rd rs1 rs2
unfolding candidate_at
reg_back w op rd rs1 rs2 r =
    let at_rd : rd_of w ≡ rd = same_register (rd_of w) rd r.is11_7 in
    let at_rs1 : rs1_of w ≡ rs1 = same_register (rs1_of w) rs1 r.is19_15 in
    let at_rs2 : rs2_of w ≡ rs2 = same_register (rs2_of w) rs2 r.is24_20 in
    let at_op : reg_op (part w 14 12) (part w 31 25) ≡ op = rw (r.is14_12, r.is31_25) (reg_op_back op) in
    rw r.is6_0 (cc)

pub regw_back : (w : ℕ) (op : RegWOp) (rd rs1 rs2 : Register)
    → Reads w 0x3b rd.number (regw_row op).0 rs1.number rs2.number (regw_row op).1 → candidate w ≡ RegW op rd rs1 rs2
unfolding candidate_at
regw_back w op rd rs1 rs2 r =
    let at_rd : rd_of w ≡ rd = same_register (rd_of w) rd r.is11_7 in
    let at_rs1 : rs1_of w ≡ rs1 = same_register (rs1_of w) rs1 r.is19_15 in
    let at_rs2 : rs2_of w ≡ rs2 = same_register (rs2_of w) rs2 r.is24_20 in
    let at_op : regw_op (part w 14 12) (part w 31 25) ≡ op = rw (r.is14_12, r.is31_25) (regw_op_back op) in
    rw r.is6_0 (cc)

pub fence_back : candidate (word Fence) ≡ Fence
unfolding candidate_at
fence_back = refl

pub ecall_back : candidate (word Ecall) ≡ Ecall
unfolding candidate_at
ecall_back = refl

pub ebreak_back : candidate (word Ebreak) ≡ Ebreak
unfolding candidate_at
ebreak_back = refl
