-- `instruction_of` is the inverse of the encoding table: it gives i for the word of i, and i only for that word.
use Rattle.std.proofs.Common.{◌≡◌, ℕ, ◌+◌, ◌*◌, ◌^◌, ◌<◌, Bool, true, false, arith, refl, ap, sym, ◌∙◌, lit<, eq-eqb, eqb-true, ne_eqb, Some, None, ◌==◌, ◌↔◌, if◌then◌else◌}
use Rattle.rv_isa.specs.Prelude.{part, low_bits, word, branch_row, load_row, store_row, imm_row, shift_row, shiftw_row, reg_row, regw_row, candidate, instruction_of, Instr, Lui, Auipc, Jal, Jalr, Branch, Load, Store, Imm, Addiw, Shift, ShiftW, Reg, RegW, Fence, Ecall, Ebreak}
use Rattle.rv_isa.proofs.RowRanges.{branch_row_fits, load_row_fits, store_row_fits, imm_row_fits, shift_row_fits, shiftw_row_fits, reg_row_fits, regw_row_fits}
use Rattle.rv_isa.proofs.FieldLemmas.{reads_joined}
use Rattle.rv_isa.proofs.DecodingLemmas.{lui_back, auipc_back, jal_back, jalr_back, branch_back, load_back, store_back, imm_back, addiw_back, shift_back, shiftw_back, reg_back, regw_back, fence_back, ecall_back, ebreak_back, low_bits_13_below, low_bits_21_below}

-- ---- `candidate` gives every instruction back

candidate-word : (i : Instr) → candidate (word i) ≡ i
candidate-word (Lui rd field) =
    let f = field.in_range in
    lui_back _ rd field (reads_joined 0x37 rd.number (part field.value 2 0) (part field.value 7 3) (part field.value 12 8) (part field.value 19 13)
    (lit< tt) rd.in_range (omega arith) (omega arith) (omega arith) (omega arith))
candidate-word (Auipc rd field) =
    let f = field.in_range in
    auipc_back _ rd field (reads_joined 0x17 rd.number (part field.value 2 0) (part field.value 7 3) (part field.value 12 8) (part field.value 19 13)
    (lit< tt) rd.in_range (omega arith) (omega arith) (omega arith) (omega arith))
candidate-word (Jal rd offset) =
    let n = low_bits 21 offset.value in
    let below : n < 2097152 = low_bits_21_below offset.value in
    jal_back _ rd offset n refl (reads_joined 0x6f rd.number (part n 14 12) (part n 19 15) (part n 4 1 * 2 + part n 11 11) (part n 20 20 * 2 ^ 6 + part n 10 5)
    (lit< tt) rd.in_range (omega arith) (omega arith) (omega arith) (omega arith))
candidate-word (Jalr rd rs1 offset) =
    let n = low_bits 12 offset.value in
    jalr_back _ rd rs1 offset (reads_joined 0x67 rd.number 0 rs1.number (part n 4 0) (part n 11 5)
    (lit< tt) rd.in_range (lit< tt) rs1.in_range (omega arith) (omega arith))
candidate-word (Branch op rs1 rs2 offset) =
    let n = low_bits 13 offset.value in
    let below : n < 8192 = low_bits_13_below offset.value in
    branch_back _ op rs1 rs2 offset n refl (reads_joined 0x63 (part n 4 1 * 2 + part n 11 11) (branch_row op) rs1.number rs2.number (part n 12 12 * 2 ^ 6 + part n 10 5)
    (lit< tt) (omega arith) (branch_row_fits op) rs1.in_range rs2.in_range (omega arith))
candidate-word (Load op rd rs1 offset) =
    let n = low_bits 12 offset.value in
    load_back _ op rd rs1 offset (reads_joined 0x03 rd.number (load_row op) rs1.number (part n 4 0) (part n 11 5)
    (lit< tt) rd.in_range (load_row_fits op) rs1.in_range (omega arith) (omega arith))
candidate-word (Store op rs1 rs2 offset) =
    let n = low_bits 12 offset.value in
    store_back _ op rs1 rs2 offset (reads_joined 0x23 (part n 4 0) (store_row op) rs1.number rs2.number (part n 11 5)
    (lit< tt) (omega arith) (store_row_fits op) rs1.in_range rs2.in_range (omega arith))
candidate-word (Imm op rd rs1 immediate) =
    let n = low_bits 12 immediate.value in
    imm_back _ op rd rs1 immediate (reads_joined 0x13 rd.number (imm_row op) rs1.number (part n 4 0) (part n 11 5)
    (lit< tt) rd.in_range (imm_row_fits op) rs1.in_range (omega arith) (omega arith))
candidate-word (Addiw rd rs1 immediate) =
    let n = low_bits 12 immediate.value in
    addiw_back _ rd rs1 immediate (reads_joined 0x1b rd.number 0 rs1.number (part n 4 0) (part n 11 5)
    (lit< tt) rd.in_range (lit< tt) rs1.in_range (omega arith) (omega arith))
candidate-word (Shift op rd rs1 amount) =
    let row = shift_row_fits op in
    shift_back _ op rd rs1 amount (reads_joined 0x13 rd.number (shift_row op).0 rs1.number (part amount.value 4 0) ((shift_row op).1 * 2 + part amount.value 5 5)
    (lit< tt) rd.in_range row.0 rs1.in_range (omega arith) (omega (arith, row.1)))
candidate-word (ShiftW op rd rs1 amount) =
    let row = shiftw_row_fits op in
    shiftw_back _ op rd rs1 amount (reads_joined 0x1b rd.number (shiftw_row op).0 rs1.number amount.value (shiftw_row op).1
    (lit< tt) rd.in_range row.0 rs1.in_range amount.in_range row.1)
candidate-word (Reg op rd rs1 rs2) =
    let row = reg_row_fits op in
    reg_back _ op rd rs1 rs2 (reads_joined 0x33 rd.number (reg_row op).0 rs1.number rs2.number (reg_row op).1
    (lit< tt) rd.in_range row.0 rs1.in_range rs2.in_range row.1)
candidate-word (RegW op rd rs1 rs2) =
    let row = regw_row_fits op in
    regw_back _ op rd rs1 rs2 (reads_joined 0x3b rd.number (regw_row op).0 rs1.number rs2.number (regw_row op).1
    (lit< tt) rd.in_range row.0 rs1.in_range rs2.in_range row.1)
candidate-word Fence = fence_back
candidate-word Ecall = ecall_back
candidate-word Ebreak = ebreak_back

pub instruction_of-word : (i : Instr) → instruction_of (word i) ≡ Some i
unfolding instruction_of
instruction_of-word i =
    let e = candidate-word i in
    let t : (word (candidate (word i)) == word i) ≡ true = eq-eqb _ _ (ap word e) in
    rw t (ap Some e)

-- what a choice between a value and none was
chosen : (b : Bool) (x i : Instr) → (if b then Some x else None) ≡ Some i → (b ≡ true) × (x ≡ i)
chosen true x i e = (refl, cc)
chosen false x i e = absurd (cc)

pub word_of-instruction : (w : ℕ) (i : Instr) → instruction_of w ≡ Some i → word i ≡ w
unfolding instruction_of
word_of-instruction w i e =
    let both = chosen (word (candidate w) == w) (candidate w) i e in
    ap word (sym both.1) ∙ eqb-true _ _ both.0

pub decodes : (w : ℕ) (i : Instr) → (instruction_of w ≡ Some i) ↔ (word i ≡ w)
decodes w i = (word_of-instruction w i, λ e. ap instruction_of (sym e) ∙ instruction_of-word i)

-- a candidate with another word: there is no instruction
pub not_decoded : (w : ℕ) (i : Instr) → i ≡ candidate w → (word i ≡ w → ⊥) → instruction_of w ≡ None
unfolding instruction_of
not_decoded w i e differs =
    let t : (word (candidate w) == w) ≡ false = ne_eqb _ _ (λ h. differs (ap word e ∙ h)) in
    rw t refl
