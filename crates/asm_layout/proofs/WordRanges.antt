-- Words of instructions have 32 bits.
use Rattle.std.proofs.Common.{◌≡◌, ℕ, zero, suc, ◌+◌, ◌-◌, ◌*◌, ◌/◌, ◌^◌, ◌<◌, List, [], ◌∷◌, ◌++◌, length, refl, subst, arith, lit<, mod-lt, ℤ, slice_index}
use Rattle.bits.specs.Words.{upper_field, lower_field}
use Rattle.rv_isa.specs.Prelude.{part, joined, u_type, i_type, j_type, b_type, word, branch_row, load_row, store_row, imm_row, shift_row, shiftw_row, reg_row, regw_row, longest}
use Rattle.rv_isa.specs.declared.relocation.Filling.{Filling}
use Rattle.rv_isa.specs.declared.relocation.Filling.TheVariants.{Part, Call as CallOf}
use Rattle.rv_isa.specs.declared.abi.TheConstants.{JUMP_SCRATCH, ZERO}
use Rattle.rv_isa.specs.declared.ranges.Register.{Register}
use Rattle.rv_isa.specs.declared.instruction.Instr.{Instr}
use Rattle.rv_isa.specs.declared.instruction.Instr.TheVariants.{Lui, Auipc, Jal, Jalr, Branch as BranchBy, Load, Store, Imm, Addiw, Shift, ShiftW, Reg, RegW, Fence, Ecall, Ebreak}
use Rattle.rv_isa.specs.declared.labelled.Item.{Item}
use Rattle.rv_isa.specs.declared.labelled.Item.TheVariants.{Plain, Label, Branch, Goto, Call, Relocated}
use Rattle.rv_isa.specs.declared.instruction.BranchOp.{BranchOp}
use Rattle.rv_isa.proofs.RowRanges.{branch_row_fits, load_row_fits, store_row_fits, imm_row_fits, shift_row_fits, shiftw_row_fits, reg_row_fits, regw_row_fits}
use Rattle.asm_layout.specs.declared.reach.Reach.{Reach}
use Rattle.asm_layout.specs.declared.reach.Reach.TheVariants.{Short, Middle, Far}
use Rattle.asm_layout.specs.Forms.{reach_of, distance, distance_word, inverse, jump_words, branch_words, item_words, words_with}

-- ---- fields

fields_small : (opcode rd funct3 rs1 rs2 funct7 : ℕ) → opcode < 128 → rd < 32 → funct3 < 8 → rs1 < 32 → rs2 < 32 → funct7 < 128
    → joined opcode rd funct3 rs1 rs2 funct7 < 2 ^ 32
fields_small opcode rd funct3 rs1 rs2 funct7 a b c d e f = omega arith

part_small : (n high low m : ℕ) → 0 < 2 ^ (high + 1 - low) → 2 ^ (high + 1 - low) ≡ m → part n high low < m
part_small n high low m some e = subst (λ x. part n high low < x) e (mod-lt (n / 2 ^ low) some)

u_small : (opcode rd field : ℕ) → opcode < 128 → rd < 32 → u_type opcode rd field < 2 ^ 32
u_small opcode rd field a b =
    let p : part field 2 0 < 8 = part_small field 2 0 8 (lit< tt) refl in
    let q : part field 7 3 < 32 = part_small field 7 3 32 (lit< tt) refl in
    let r : part field 12 8 < 32 = part_small field 12 8 32 (lit< tt) refl in
    let s : part field 19 13 < 128 = part_small field 19 13 128 (lit< tt) refl in
    fields_small opcode rd (part field 2 0) (part field 7 3) (part field 12 8) (part field 19 13) a b p q r s

-- ---- formats

i_with : (opcode funct3 rd rs1 imm : ℕ) → opcode < 128 → funct3 < 8 → rd < 32 → rs1 < 32
    → joined opcode rd funct3 rs1 (part imm 4 0) (part imm 11 5) < 2 ^ 32
i_with opcode funct3 rd rs1 imm a b c d =
    fields_small opcode rd funct3 rs1 (part imm 4 0) (part imm 11 5) a c b d (part_small imm 4 0 32 (lit< tt) refl) (part_small imm 11 5 128 (lit< tt) refl)

pub i_small : (opcode funct3 rd rs1 : ℕ) (z : ℤ) → opcode < 128 → funct3 < 8 → rd < 32 → rs1 < 32 → i_type opcode funct3 rd rs1 z < 2 ^ 32
i_small opcode funct3 rd rs1 z a b c d = i_with opcode funct3 rd rs1 _ a b c d

s_with : (opcode funct3 rs1 rs2 imm : ℕ) → opcode < 128 → funct3 < 8 → rs1 < 32 → rs2 < 32
    → joined opcode (part imm 4 0) funct3 rs1 rs2 (part imm 11 5) < 2 ^ 32
s_with opcode funct3 rs1 rs2 imm a b c d =
    fields_small opcode (part imm 4 0) funct3 rs1 rs2 (part imm 11 5) a (part_small imm 4 0 32 (lit< tt) refl) b c d (part_small imm 11 5 128 (lit< tt) refl)

b_with : (opcode funct3 rs1 rs2 imm : ℕ) → opcode < 128 → funct3 < 8 → rs1 < 32 → rs2 < 32
    → joined opcode (part imm 4 1 * 2 + part imm 11 11) funct3 rs1 rs2 (part imm 12 12 * 2 ^ 6 + part imm 10 5) < 2 ^ 32
b_with opcode funct3 rs1 rs2 imm a b c d =
    let p : part imm 4 1 < 16 = part_small imm 4 1 16 (lit< tt) refl in
    let q : part imm 11 11 < 2 = part_small imm 11 11 2 (lit< tt) refl in
    let r : part imm 12 12 < 2 = part_small imm 12 12 2 (lit< tt) refl in
    let s : part imm 10 5 < 64 = part_small imm 10 5 64 (lit< tt) refl in
    fields_small opcode (part imm 4 1 * 2 + part imm 11 11) funct3 rs1 rs2 (part imm 12 12 * 2 ^ 6 + part imm 10 5) a (omega (arith, p, q)) b c d (omega (arith, r, s))

pub b_small : (funct3 rs1 rs2 : ℕ) (z : ℤ) → funct3 < 8 → rs1 < 32 → rs2 < 32 → b_type 0x63 funct3 rs1 rs2 z < 2 ^ 32
b_small funct3 rs1 rs2 z b c d = b_with 0x63 funct3 rs1 rs2 _ (lit< tt) b c d

j_with : (opcode rd imm : ℕ) → opcode < 128 → rd < 32
    → joined opcode rd (part imm 14 12) (part imm 19 15) (part imm 4 1 * 2 + part imm 11 11) (part imm 20 20 * 2 ^ 6 + part imm 10 5) < 2 ^ 32
j_with opcode rd imm a b =
    let p : part imm 4 1 < 16 = part_small imm 4 1 16 (lit< tt) refl in
    let q : part imm 11 11 < 2 = part_small imm 11 11 2 (lit< tt) refl in
    let r : part imm 20 20 < 2 = part_small imm 20 20 2 (lit< tt) refl in
    let s : part imm 10 5 < 64 = part_small imm 10 5 64 (lit< tt) refl in
    fields_small opcode rd (part imm 14 12) (part imm 19 15) (part imm 4 1 * 2 + part imm 11 11) (part imm 20 20 * 2 ^ 6 + part imm 10 5)
    a b (part_small imm 14 12 8 (lit< tt) refl) (part_small imm 19 15 32 (lit< tt) refl) (omega (arith, p, q)) (omega (arith, r, s))

pub j_small : (rd : ℕ) (z : ℤ) → rd < 32 → j_type 0x6f rd z < 2 ^ 32
j_small rd z b = j_with 0x6f rd _ (lit< tt) b

-- ---- words

pub word_small : (i : Instr) → word i < 2 ^ 32
word_small (Lui rd field) = u_small 0x37 rd.number field.value (lit< tt) rd.in_range
word_small (Auipc rd field) = u_small 0x17 rd.number field.value (lit< tt) rd.in_range
word_small (Jal rd offset) = j_small rd.number offset.value rd.in_range
word_small (Jalr rd rs1 offset) = i_small 0x67 0 rd.number rs1.number offset.value (lit< tt) (lit< tt) rd.in_range rs1.in_range
word_small (BranchBy op rs1 rs2 offset) = b_small (branch_row op) rs1.number rs2.number offset.value (branch_row_fits op) rs1.in_range rs2.in_range
word_small (Load op rd rs1 offset) = i_small 0x03 (load_row op) rd.number rs1.number offset.value (lit< tt) (load_row_fits op) rd.in_range rs1.in_range
word_small (Store op rs1 rs2 offset) = s_with 0x23 (store_row op) rs1.number rs2.number _ (lit< tt) (store_row_fits op) rs1.in_range rs2.in_range
word_small (Imm op rd rs1 immediate) = i_small 0x13 (imm_row op) rd.number rs1.number immediate.value (lit< tt) (imm_row_fits op) rd.in_range rs1.in_range
word_small (Addiw rd rs1 immediate) = i_small 0x1b 0 rd.number rs1.number immediate.value (lit< tt) (lit< tt) rd.in_range rs1.in_range
word_small (Shift op rd rs1 amount) =
    let rows = shift_row_fits op in
    let high = rows.1 in
    let p : part amount.value 5 5 < 2 = part_small amount.value 5 5 2 (lit< tt) refl in
    fields_small 0x13 rd.number (shift_row op).0 rs1.number (part amount.value 4 0) ((shift_row op).1 * 2 + part amount.value 5 5)
    (lit< tt) rd.in_range rows.0 rs1.in_range (part_small amount.value 4 0 32 (lit< tt) refl) (omega (arith, high, p))
word_small (ShiftW op rd rs1 amount) =
    let rows = shiftw_row_fits op in
    fields_small 0x1b rd.number (shiftw_row op).0 rs1.number amount.value (shiftw_row op).1 (lit< tt) rd.in_range rows.0 rs1.in_range amount.in_range rows.1
word_small (Reg op rd rs1 rs2) =
    let rows = reg_row_fits op in
    fields_small 0x33 rd.number (reg_row op).0 rs1.number rs2.number (reg_row op).1 (lit< tt) rd.in_range rows.0 rs1.in_range rs2.in_range rows.1
word_small (RegW op rd rs1 rs2) =
    let rows = regw_row_fits op in
    fields_small 0x3b rd.number (regw_row op).0 rs1.number rs2.number (regw_row op).1 (lit< tt) rd.in_range rows.0 rs1.in_range rs2.in_range rows.1
word_small Fence = lit< tt
word_small Ecall = lit< tt
word_small Ebreak = lit< tt

-- ---- words of items

-- each word of a list has 32 bits
abbrev pub AreSmall : List ℕ → Type 0
AreSmall [] = Unit {0}
AreSmall (w ∷ ws) = (w < 2 ^ 32) × AreSmall ws

pub small_at : (ws : List ℕ) → AreSmall ws → (k : ℕ) → slice_index ws k < 2 ^ 32
small_at [] h k = lit< tt
small_at (w ∷ ws) h zero = h.0
small_at (w ∷ ws) h (suc k) = small_at ws h.1 k

pub small_both : (xs ys : List ℕ) → AreSmall xs → AreSmall ys → AreSmall (xs ++ ys)
small_both [] ys h k = k
small_both (x ∷ xs) ys h k = (h.0, small_both xs ys h.1 k)

jump_words_small : (r : Reach) (here there : ℕ) → AreSmall (jump_words r here there)
jump_words_small Short here there = (j_small 0 (distance here there) (lit< tt), tt)
jump_words_small Middle here there = (j_small 0 (distance here there) (lit< tt), tt)
jump_words_small Far here there = (
  u_small 0x17 JUMP_SCRATCH (upper_field (distance_word here there)) (lit< tt) (lit< tt),
  (i_small 0x67 0 ZERO JUMP_SCRATCH (lower_field (distance_word here there)) (lit< tt) (lit< tt) (lit< tt) (lit< tt), tt),
)

branch_words_small : (r : Reach) (op : BranchOp) (rs1 rs2 : Register) (here there : ℕ) → AreSmall (branch_words r op rs1 rs2 here there)
branch_words_small Short op rs1 rs2 here there = (b_small (branch_row op) rs1.number rs2.number (distance here there) (branch_row_fits op) rs1.in_range rs2.in_range, tt)
branch_words_small Middle op rs1 rs2 here there = (
  b_small (branch_row (inverse op)) rs1.number rs2.number (distance here (here + 2)) (branch_row_fits (inverse op)) rs1.in_range rs2.in_range,
  jump_words_small Middle (here + 1) there,
)
branch_words_small Far op rs1 rs2 here there = (
  b_small (branch_row (inverse op)) rs1.number rs2.number (distance here (here + 3)) (branch_row_fits (inverse op)) rs1.in_range rs2.in_range,
  jump_words_small Far (here + 1) there,
)

-- each word that waits for an address has 32 bits
abbrev pub AllSmall : (ℕ → Filling → ℕ) → Type 0
AllSmall fill = (p : ℕ) (x : Filling) → fill p x < 2 ^ 32

item_words_small : (far places : List ℕ) (fill : ℕ → Filling → ℕ) → AllSmall fill → (f p : ℕ) (i : Item) → AreSmall (item_words far places fill f p i)
item_words_small far places fill small f p (Plain i) = (word_small i, tt)
item_words_small far places fill small f p (Label l) = tt
item_words_small far places fill small f p (Branch op rs1 rs2 l) = branch_words_small (reach_of f (slice_index far l)) op rs1 rs2 p (slice_index places l)
item_words_small far places fill small f p (Goto l) = jump_words_small (reach_of f (slice_index far l)) p (slice_index places l)
item_words_small far places fill small f p (Call n) = (small p (CallOf n), tt)
item_words_small far places fill small f p (Relocated r) = (small p (Part r), tt)

pub all_small : (far places : List ℕ) (fill : ℕ → Filling → ℕ) → AllSmall fill → (f : ℕ) (pre : List ℕ) (items : List Item) → AreSmall pre
    → AreSmall (words_with far places fill f pre items)
all_small far places fill small f pre [] h = h
all_small far places fill small f pre (i ∷ items) h =
    all_small far places fill small (f + longest i) (pre ++ item_words far places fill f (length pre) i) items
    (small_both pre (item_words far places fill f (length pre) i) h (item_words_small far places fill small f (length pre) i))
