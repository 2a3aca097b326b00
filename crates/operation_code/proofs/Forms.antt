-- What the code of a form does, and that it is what the operation does with the number.
use Rattle.std.proofs.Common.{◌≡◌, ℕ, ◌+◌, ◌*◌, ◌/◌, ◌%◌, ◌^◌, ◌<◌, Bool, true, false, [], ◌∷◌, refl, sym, ◌∙◌, ap, subst, arith, lit<, mod-lt, not, nat_eq, nat_lt, if◌then◌else◌, int_lt, Some, None}
use Rattle.std.specs.Int.{cast_signed, cast_unsigned, w32, w64, int_shr, trailing_zeros}
use Rattle.std.proofs.Math.Nat.{mul_comm}
use Rattle.std.proofs.lemmas.Nat.{and_comm, or_comm, xor_comm}
use Rattle.bits.specs.Words.{sign_extended}
use Rattle.il_ast.specs.declared.operation.Class.TheVariants.{W, L}
use Rattle.il_ast.specs.declared.operation.Condition.{Condition}
use Rattle.il_ast.specs.declared.operation.Condition.TheVariants.{Equal, NotEqual, SignedLessEqual, SignedLess, SignedGreaterEqual, SignedGreater, UnsignedLessEqual, UnsignedLess, UnsignedGreaterEqual, UnsignedGreater}
use Rattle.il_ast.specs.Prelude.{holds, truth}
use Rattle.rv_isa.specs.Prelude.{State, reg_value, regw_value, imm_value, imm_op_of, addiw_value, shift_value, shiftw_value, truth as bit_of}
use Rattle.rv_isa.specs.declared.instruction.Instr.TheVariants.{Imm, Reg}
use Rattle.rv_isa.specs.declared.instruction.ImmOp.{ImmOp}
use Rattle.rv_isa.specs.declared.instruction.ImmOp.TheVariants.{Addi, Slti, Sltiu, Xori, Ori, Andi}
use Rattle.rv_isa.specs.declared.instruction.ShiftOp.TheVariants.{Slli, Srli, Srai}
use Rattle.rv_isa.specs.declared.instruction.ShiftWOp.TheVariants.{Slliw, Srliw, Sraiw}
use Rattle.rv_isa.specs.declared.instruction.RegOp.{RegOp}
use Rattle.rv_isa.specs.declared.instruction.RegOp.TheVariants.{Add, Sub, Sll, Slt, Sltu, Xor, Srl, Sra, Or, And, Mul, Mulh, Mulhsu, Mulhu, Div, Divu, Rem, Remu}
use Rattle.rv_isa.specs.declared.instruction.RegWOp.{RegWOp}
use Rattle.rv_isa.specs.declared.instruction.RegWOp.TheVariants.{Addw, Subw, Sllw, Srlw, Sraw, Mulw, Divw, Divuw, Remw, Remuw}
use Rattle.rv_isa.specs.declared.labelled.Item.TheVariants.{Plain}
use Rattle.vcode.specs.declared.place.Operand.TheVariants.{Number}
use Rattle.vcode.specs.declared.line.Operation.{Operation}
use Rattle.vcode.specs.declared.line.Operation.TheVariants.{Reg as RegOperation, RegW as RegWOperation, Compare}
use Rattle.vcode.specs.Prelude.{is_immediate, low}
use Rattle.flat_code.specs.Step.{computed}
use Rattle.operation_code.specs.Constants.{reg, add_low, is_zero, is_not_zero, word}
use Rattle.operation_code.specs.Immediates.{opposite, next, form_if, immediate_form, sum_form, reg_form, regw_form, compares_with, comparison_form, number_form, turned, left_form, compare_number, form_items, is_power}
use Rattle.operation_code.specs.declared.immediate.Form.{Form}
use Rattle.operation_code.specs.declared.immediate.Form.TheVariants.{Immediate as ByImmediate, AddWord, Shift as ByShift, ShiftWord, Compare as ByComparison}
use Rattle.operation_code.proofs.ConstantNumbers.{immediate_adds}
use Rattle.operation_code.proofs.FormNumbers.{immediate_wide, same_word, word_is_small, less_opposite, opposite_small, opposite_word, sum_word, signed_next, unsigned_next, shift_of_64, shift_of_32, zero_is, not_zero_is, power_is, small_64, small_32, low_word}
use Rattle.operation_code.proofs.Leading.{Site, Leads, leads_fixed, leads_again, leads_set, Sets, IsReg, register_reg, in_register, in_register_small}
use Rattle.operation_code.proofs.Instructions.{leads_imm, leads_add_low, leads_add_word, leads_shift, leads_shift_word}
use Rattle.operation_code.proofs.Comparing.{bit_is, zero_difference, some_difference, le_is_not_lt, int_le_is, then_negate, sets_as}
use Rattle.vcode.proofs.Comparing.{holds_extended}
use Rattle.il_ast.proofs.Truth.{and_first, equal_turned, not_not}

-- ---- comparisons with a number

leads_equal : (c : Site) (s : State) (d a n : ℕ) → IsReg d → is_immediate (opposite n) ≡ true
    → Leads c (compare_number Equal d a n) s (Sets s d (truth (nat_eq (in_register s a) (n % 2 ^ 64))))
leads_equal c s d a n is near = by_test (nat_eq n 0) refl
  where
    by_test : (b : Bool) → nat_eq n 0 ≡ b
        → Leads c (if b then is_zero d a ∷ [] else add_low d a (opposite n) ∷ is_zero d d ∷ []) s (Sets s d (truth (nat_eq (in_register s a) (n % 2 ^ 64))))
    by_test true e =
        leads_set c s (Imm Sltiu (reg d) (reg a) (low 1)) d (bit_of (nat_lt (in_register s a) 1)) (truth (nat_eq (in_register s a) (n % 2 ^ 64))) is refl
        (ap bit_of (zero_is (in_register s a) n e) ∙ bit_is (nat_eq (in_register s a) (n % 2 ^ 64)))
    by_test false e =
        leads_fixed c (add_low d a (opposite n) ∷ is_zero d d ∷ []) s (Sets s d (truth (nat_eq (in_register s a) (n % 2 ^ 64))))
        (λ fixed.
        let x : ℕ = in_register s a in
        let v : ℕ = (x + opposite n) % 2 ^ 64 in
        leads_again c (add_low d a (opposite n) ∷ []) (is_zero d d ∷ []) s d v (truth (nat_eq x (n % 2 ^ 64)))
        (leads_add_low c s d a (opposite n) x v is refl (immediate_adds x (opposite n) near))
        (λ u f one.
        leads_set c u (Imm Sltiu (reg d) (reg d) (low 1)) d (bit_of (nat_lt (in_register u d) 1)) (truth (nat_eq x (n % 2 ^ 64))) is refl
        (ap (λ m. bit_of (nat_lt m 1)) (register_reg u d is ∙ (one.value ∙ less_opposite x n))
        ∙ (ap bit_of (zero_difference x (n % 2 ^ 64) (in_register_small c.ground s a fixed) (mod-lt n (lit< tt))) ∙ bit_is (nat_eq x (n % 2 ^ 64))))))

leads_unequal : (c : Site) (s : State) (d a n : ℕ) → IsReg d → is_immediate (opposite n) ≡ true
    → Leads c (compare_number NotEqual d a n) s (Sets s d (truth (not (nat_eq (in_register s a) (n % 2 ^ 64)))))
leads_unequal c s d a n is near = by_test (nat_eq n 0) refl
  where
    by_test : (b : Bool) → nat_eq n 0 ≡ b
        → Leads c (if b then is_not_zero d a ∷ [] else add_low d a (opposite n) ∷ is_not_zero d d ∷ []) s
        (Sets s d (truth (not (nat_eq (in_register s a) (n % 2 ^ 64)))))
    by_test true e =
        leads_set c s (Reg Sltu (reg d) (reg 0) (reg a)) d (bit_of (nat_lt 0 (in_register s a))) (truth (not (nat_eq (in_register s a) (n % 2 ^ 64)))) is refl
        (ap bit_of (not_zero_is (in_register s a) n e) ∙ bit_is (not (nat_eq (in_register s a) (n % 2 ^ 64))))
    by_test false e =
        leads_fixed c (add_low d a (opposite n) ∷ is_not_zero d d ∷ []) s (Sets s d (truth (not (nat_eq (in_register s a) (n % 2 ^ 64)))))
        (λ fixed.
        let x : ℕ = in_register s a in
        let v : ℕ = (x + opposite n) % 2 ^ 64 in
        leads_again c (add_low d a (opposite n) ∷ []) (is_not_zero d d ∷ []) s d v (truth (not (nat_eq x (n % 2 ^ 64))))
        (leads_add_low c s d a (opposite n) x v is refl (immediate_adds x (opposite n) near))
        (λ u f one.
        leads_set c u (Reg Sltu (reg d) (reg 0) (reg d)) d (bit_of (nat_lt 0 (in_register u d))) (truth (not (nat_eq x (n % 2 ^ 64)))) is refl
        (ap (λ m. bit_of (nat_lt 0 m)) (register_reg u d is ∙ (one.value ∙ less_opposite x n))
        ∙ (ap bit_of (some_difference x (n % 2 ^ 64) (in_register_small c.ground s a fixed) (mod-lt n (lit< tt))) ∙ bit_is (not (nat_eq x (n % 2 ^ 64)))))))

-- less than m, with a sign and without
leads_less : (c : Site) (s : State) (d a m : ℕ) (b : Bool) → IsReg d → is_immediate m ≡ true
    → int_lt (cast_signed w64 (in_register s a)) (cast_signed w64 (m % 2 ^ 64)) ≡ b
    → Leads c (Plain (Imm Slti (reg d) (reg a) (low m)) ∷ []) s (Sets s d (bit_of b))
leads_less c s d a m b is near e =
    sets_as c (Plain (Imm Slti (reg d) (reg a) (low m)) ∷ []) s d (imm_value Slti (in_register s a) (low m).value) (bit_of b)
    (ap (λ y. bit_of (int_lt (cast_signed w64 (in_register s a)) (cast_signed w64 y))) (immediate_wide m near) ∙ ap bit_of e)
    (leads_imm c s Slti d a m is)

leads_below : (c : Site) (s : State) (d a m : ℕ) (b : Bool) → IsReg d → is_immediate m ≡ true → nat_lt (in_register s a) (m % 2 ^ 64) ≡ b
    → Leads c (Plain (Imm Sltiu (reg d) (reg a) (low m)) ∷ []) s (Sets s d (bit_of b))
leads_below c s d a m b is near e =
    sets_as c (Plain (Imm Sltiu (reg d) (reg a) (low m)) ∷ []) s d (imm_value Sltiu (in_register s a) (low m).value) (bit_of b)
    (ap (λ y. bit_of (nat_lt (in_register s a) y)) (immediate_wide m near) ∙ ap bit_of e)
    (leads_imm c s Sltiu d a m is)

leads_comparison : (c : Site) (s : State) (on : Condition) (d a n : ℕ) → IsReg d → compares_with on n ≡ true → in_register s a < 2 ^ 64
    → Leads c (compare_number on d a n) s (Sets s d (truth (holds on L (in_register s a) (n % 2 ^ 64))))
leads_comparison c s Equal d a n is near small = leads_equal c s d a n is near
leads_comparison c s NotEqual d a n is near small = leads_unequal c s d a n is near
leads_comparison c s SignedLess d a n is near small =
    let t : Bool = holds SignedLess L (in_register s a) (n % 2 ^ 64) in
    sets_as c (compare_number SignedLess d a n) s d (bit_of t) (truth t) (bit_is t) (leads_less c s d a n t is near refl)
leads_comparison c s SignedGreaterEqual d a n is near small =
    let t : Bool = holds SignedLess L (in_register s a) (n % 2 ^ 64) in
    then_negate c s (Plain (Imm Slti (reg d) (reg a) (low n))) d t (holds SignedGreaterEqual L (in_register s a) (n % 2 ^ 64)) is
    (int_le_is (cast_signed w64 (n % 2 ^ 64)) (cast_signed w64 (in_register s a))) (leads_less c s d a n t is near refl)
leads_comparison c s SignedLessEqual d a n is near small =
    let t : Bool = holds SignedLessEqual L (in_register s a) (n % 2 ^ 64) in
    sets_as c (compare_number SignedLessEqual d a n) s d (bit_of t) (truth t) (bit_is t)
    (leads_less c s d a (next n) t is near (signed_next (in_register s a) n small near))
leads_comparison c s SignedGreater d a n is near small =
    let x : ℕ = in_register s a in
    let t : Bool = holds SignedLessEqual L x (n % 2 ^ 64) in
    let g : Bool = holds SignedGreater L x (n % 2 ^ 64) in
    then_negate c s (Plain (Imm Slti (reg d) (reg a) (low (next n)))) d t g is
    (ap not (sym (int_le_is (cast_signed w64 x) (cast_signed w64 (n % 2 ^ 64)))) ∙ not_not g)
    (leads_less c s d a (next n) t is near (signed_next x n small near))
leads_comparison c s UnsignedLess d a n is near small =
    let t : Bool = holds UnsignedLess L (in_register s a) (n % 2 ^ 64) in
    sets_as c (compare_number UnsignedLess d a n) s d (bit_of t) (truth t) (bit_is t) (leads_below c s d a n t is near refl)
leads_comparison c s UnsignedGreaterEqual d a n is near small =
    let t : Bool = holds UnsignedLess L (in_register s a) (n % 2 ^ 64) in
    then_negate c s (Plain (Imm Sltiu (reg d) (reg a) (low n))) d t (holds UnsignedGreaterEqual L (in_register s a) (n % 2 ^ 64)) is
    (le_is_not_lt (n % 2 ^ 64) (in_register s a)) (leads_below c s d a n t is near refl)
leads_comparison c s UnsignedLessEqual d a n is near small =
    let t : Bool = holds UnsignedLessEqual L (in_register s a) (n % 2 ^ 64) in
    sets_as c (compare_number UnsignedLessEqual d a n) s d (bit_of t) (truth t) (bit_is t)
    (leads_below c s d a (next n) t is (and_first (is_immediate (next n)) (not (nat_eq (next n) 0)) near) (unsigned_next (in_register s a) n small near))
leads_comparison c s UnsignedGreater d a n is near small =
    let x : ℕ = in_register s a in
    let t : Bool = holds UnsignedLessEqual L x (n % 2 ^ 64) in
    let g : Bool = holds UnsignedGreater L x (n % 2 ^ 64) in
    then_negate c s (Plain (Imm Sltiu (reg d) (reg a) (low (next n)))) d t g is
    (ap not (sym (le_is_not_lt x (n % 2 ^ 64))) ∙ not_not g)
    (leads_below c s d a (next n) t is (and_first (is_immediate (next n)) (not (nat_eq (next n) 0)) near) (unsigned_next x n small near))

-- ---- forms

abbrev form_value : Form → ℕ → ℕ
form_value (ByImmediate op n) x = imm_value op x (low n).value
form_value (AddWord n) x = addiw_value x (low n).value
form_value (ByShift op n) x = shift_value op x (n % 64)
form_value (ShiftWord op n) x = shiftw_value op x (n % 32)
form_value (ByComparison on n) x = truth (holds on L x (n % 2 ^ 64))

abbrev Fits : Form → Type 0
Fits (ByComparison on n) = compares_with on n ≡ true
Fits form = Unit {0}

leads_fitting : (c : Site) (s : State) (form : Form) (d a : ℕ) → IsReg d → Fits form → in_register s a < 2 ^ 64
    → Leads c (form_items form d a) s (Sets s d (form_value form (in_register s a)))
leads_fitting c s (ByImmediate op n) d a is fits small = leads_imm c s op d a n is
leads_fitting c s (AddWord n) d a is fits small = leads_add_word c s d a n is
leads_fitting c s (ByShift op n) d a is fits small = leads_shift c s op d a n is
leads_fitting c s (ShiftWord op n) d a is fits small = leads_shift_word c s op d a n is
leads_fitting c s (ByComparison on n) d a is fits small = leads_comparison c s on d a n is fits small

-- the form does this
pub record IsFormOf (g : ℕ → ℕ) (form : Form) : Type 0 where
  fits : Fits form
  value : (x : ℕ) → form_value form x ≡ g x

pub leads_form : (c : Site) (s : State) (g : ℕ → ℕ) (form : Form) (d a : ℕ) → IsReg d → IsFormOf g form
    → Leads c (form_items form d a) s (Sets s d (g (in_register s a)))
leads_form c s g form d a is does =
    leads_fixed c (form_items form d a) s (Sets s d (g (in_register s a)))
    (λ fixed.
    subst (λ v. Leads c (form_items form d a) s (Sets s d v)) (does.value (in_register s a))
    (leads_fitting c s form d a is does.fits (in_register_small c.ground s a fixed)))

-- ---- what an operation does with its operands in registers, words that are compared extended

abbrev pub made : Operation → (a b : ℕ) → ℕ
made (RegOperation op) a b = reg_value op a b
made (RegWOperation op) a b = regw_value op a b
made (Compare on k) a b = truth (holds on L a b)

abbrev pub as_read : Operation → ℕ → ℕ
as_read (Compare on W) x = word x
as_read (Compare on L) x = x
as_read (RegOperation op) x = x
as_read (RegWOperation op) x = x

pub computed_is : (op : Operation) (x y : ℕ) → made op (as_read op x) (as_read op y) ≡ computed op x y
unfolding computed
computed_is (RegOperation op) x y = refl
computed_is (RegWOperation op) x y = refl
computed_is (Compare on L) x y = refl
computed_is (Compare on W) x y = ap truth (holds_extended on (x % 2 ^ 32) (y % 2 ^ 32) (mod-lt x (lit< tt)) (mod-lt y (lit< tt)))

-- ---- the form of an operation with a number

record Given (b : Bool) (form f : Form) : Type 0 where
  holds : b ≡ true
  same : form ≡ f

given : (b : Bool) (form f : Form) → form_if b form ≡ Some f → Given b form f
given true form f e = record { holds = refl; same = cc }
given false form f e = absurd (let no : ⊥ = cc in no)

same_form : (a b : Form) → Some a ≡ Some b → a ≡ b
same_form a b e = cc

pub nothing_given : {X : Type 0} (f : Form) → None ≡ Some f → X
nothing_given f e = absurd (let no : ⊥ = cc in no)

by_immediate : (op : ImmOp) (n : ℕ) (f : Form) → immediate_form op n ≡ Some f → IsFormOf (λ x. reg_value (imm_op_of op) x (n % 2 ^ 64)) f
by_immediate op n f e =
    let is = given (is_immediate n) (ByImmediate op n) f e in
    subst (IsFormOf (λ x. reg_value (imm_op_of op) x (n % 2 ^ 64))) is.same
    (record { fits = tt; value = λ x. ap (reg_value (imm_op_of op) x) (immediate_wide n is.holds) })

by_sum : (n : ℕ) (f : Form) → sum_form n ≡ Some f → IsFormOf (λ x. sign_extended ((x + n % 2 ^ 64) % 2 ^ 32)) f
by_sum n f e =
    let is = given (is_immediate n) (AddWord n) f e in
    subst (IsFormOf (λ x. sign_extended ((x + n % 2 ^ 64) % 2 ^ 32))) is.same
    (record { fits = tt; value = λ x. ap (λ m. sign_extended ((x + m) % 2 ^ 32)) (immediate_wide n is.holds) })

by_comparison : (on : Condition) (n : ℕ) (f : Form) → comparison_form on n ≡ Some f → IsFormOf (λ x. truth (holds on L x (n % 2 ^ 64))) f
by_comparison on n f e =
    let is = given (compares_with on n) (ByComparison on n) f e in
    subst (IsFormOf (λ x. truth (holds on L x (n % 2 ^ 64)))) is.same (record { fits = is.holds; value = λ x. refl })

-- what does the same
does_too : (g h : ℕ → ℕ) (f : Form) → ((x : ℕ) → g x ≡ h x) → IsFormOf g f → IsFormOf h f
does_too g h f same is = record { fits = is.fits; value = λ x. is.value x ∙ same x }

reg_form_is : (op : RegOp) (n : ℕ) (f : Form) → reg_form op n ≡ Some f → IsFormOf (λ x. reg_value op x (n % 2 ^ 64)) f
reg_form_is Add n f e = by_immediate Addi n f e
reg_form_is Sub n f e =
    does_too (λ x. reg_value Add x (opposite n % 2 ^ 64)) (λ x. reg_value Sub x (n % 2 ^ 64)) f (λ x. opposite_small x n) (by_immediate Addi (opposite n) f e)
reg_form_is Slt n f e = by_immediate Slti n f e
reg_form_is Sltu n f e = by_immediate Sltiu n f e
reg_form_is Xor n f e = by_immediate Xori n f e
reg_form_is Or n f e = by_immediate Ori n f e
reg_form_is And n f e = by_immediate Andi n f e
reg_form_is Sll n f e =
    subst (IsFormOf (λ x. reg_value Sll x (n % 2 ^ 64))) (same_form (ByShift Slli n) f e)
    (record { fits = tt; value = λ x. ap (λ k. (x * 2 ^ k) % 2 ^ 64) (shift_of_64 n) })
reg_form_is Srl n f e =
    subst (IsFormOf (λ x. reg_value Srl x (n % 2 ^ 64))) (same_form (ByShift Srli n) f e)
    (record { fits = tt; value = λ x. ap (λ k. x / 2 ^ k) (shift_of_64 n) })
reg_form_is Sra n f e =
    subst (IsFormOf (λ x. reg_value Sra x (n % 2 ^ 64))) (same_form (ByShift Srai n) f e)
    (record { fits = tt; value = λ x. ap (λ k. cast_unsigned w64 (int_shr (cast_signed w64 x) k)) (shift_of_64 n) })
reg_form_is Mul n f e =
    let m : ℕ = n % 2 ^ 64 in
    let k : ℕ = trailing_zeros w64 m in
    let is = given (is_power 64 m) (ByShift Slli k) f e in
    let power = power_is 64 m (omega arith) is.holds in
    subst (IsFormOf (λ x. reg_value Mul x m)) is.same
    (record { fits = tt; value = λ x. ap (λ q. (x * 2 ^ q) % 2 ^ 64) (small_64 k power.few) ∙ ap (λ q. (x * q) % 2 ^ 64) power.power })
reg_form_is Mulh n f e = nothing_given f e
reg_form_is Mulhsu n f e = nothing_given f e
reg_form_is Mulhu n f e = nothing_given f e
reg_form_is Div n f e = nothing_given f e
reg_form_is Divu n f e = nothing_given f e
reg_form_is Rem n f e = nothing_given f e
reg_form_is Remu n f e = nothing_given f e

regw_form_is : (op : RegWOp) (n : ℕ) (f : Form) → regw_form op n ≡ Some f → IsFormOf (λ x. regw_value op x (n % 2 ^ 64)) f
regw_form_is Addw n f e =
    does_too (λ x. sign_extended ((x + word n % 2 ^ 64) % 2 ^ 32)) (λ x. regw_value Addw x (n % 2 ^ 64)) f (λ x. ap sign_extended (sum_word x n)) (by_sum (word n) f e)
regw_form_is Subw n f e =
    does_too (λ x. sign_extended ((x + word (opposite n) % 2 ^ 64) % 2 ^ 32)) (λ x. regw_value Subw x (n % 2 ^ 64)) f (λ x. ap sign_extended (opposite_word x n))
    (by_sum (word (opposite n)) f e)
regw_form_is Sllw n f e =
    subst (IsFormOf (λ x. regw_value Sllw x (n % 2 ^ 64))) (same_form (ShiftWord Slliw n) f e)
    (record { fits = tt; value = λ x. ap (λ k. sign_extended ((x % 2 ^ 32 * 2 ^ k) % 2 ^ 32)) (shift_of_32 n) })
regw_form_is Srlw n f e =
    subst (IsFormOf (λ x. regw_value Srlw x (n % 2 ^ 64))) (same_form (ShiftWord Srliw n) f e)
    (record { fits = tt; value = λ x. ap (λ k. sign_extended (x % 2 ^ 32 / 2 ^ k)) (shift_of_32 n) })
regw_form_is Sraw n f e =
    subst (IsFormOf (λ x. regw_value Sraw x (n % 2 ^ 64))) (same_form (ShiftWord Sraiw n) f e)
    (record { fits = tt; value = λ x. ap (λ k. sign_extended (cast_unsigned w32 (int_shr (cast_signed w32 (x % 2 ^ 32)) k))) (shift_of_32 n) })
regw_form_is Mulw n f e =
    let m : ℕ = n % 2 ^ 32 in
    let k : ℕ = trailing_zeros w64 m in
    let is = given (is_power 32 m) (ShiftWord Slliw k) f e in
    let power = power_is 32 m (omega arith) is.holds in
    subst (IsFormOf (λ x. regw_value Mulw x (n % 2 ^ 64))) is.same
    (record {
      fits = tt;
      value = λ x.
          ap (λ q. sign_extended ((x % 2 ^ 32 * 2 ^ q) % 2 ^ 32)) (small_32 k power.few)
          ∙ ap (λ q. sign_extended ((x % 2 ^ 32 * q) % 2 ^ 32)) (power.power ∙ low_word n);
    })
regw_form_is Divw n f e = nothing_given f e
regw_form_is Divuw n f e = nothing_given f e
regw_form_is Remw n f e = nothing_given f e
regw_form_is Remuw n f e = nothing_given f e

-- a number as it is read
abbrev read_number : Operation → ℕ → ℕ
read_number op n = as_read op (n % 2 ^ 64)

word_again : (n : ℕ) → word n % 2 ^ 64 ≡ word (n % 2 ^ 64)
word_again n = word_is_small n ∙ sym (same_word n)

pub number_form_is : (op : Operation) (n : ℕ) (f : Form) → number_form op n ≡ Some f → IsFormOf (λ x. made op x (read_number op n)) f
number_form_is (RegOperation op) n f e = reg_form_is op n f e
number_form_is (RegWOperation op) n f e = regw_form_is op n f e
number_form_is (Compare on L) n f e = by_comparison on n f e
number_form_is (Compare on W) n f e =
    does_too (λ x. truth (holds on L x (word n % 2 ^ 64))) (λ x. truth (holds on L x (word (n % 2 ^ 64)))) f (λ x. ap (λ m. truth (holds on L x m)) (word_again n))
    (by_comparison on (word n) f e)

-- ---- with the number on the left

holds_turned : (on : Condition) (a b : ℕ) → holds (turned on) L a b ≡ holds on L b a
holds_turned Equal a b = equal_turned a b
holds_turned NotEqual a b = ap not (equal_turned a b)
holds_turned SignedLess a b = refl
holds_turned SignedGreater a b = refl
holds_turned SignedLessEqual a b = refl
holds_turned SignedGreaterEqual a b = refl
holds_turned UnsignedLess a b = refl
holds_turned UnsignedGreater a b = refl
holds_turned UnsignedLessEqual a b = refl
holds_turned UnsignedGreaterEqual a b = refl

sum_turned : (a b : ℕ) → (a + b) % 2 ^ 64 ≡ (b + a) % 2 ^ 64
sum_turned a b = omega arith

sum_turned_word : (a b : ℕ) → (a + b) % 2 ^ 32 ≡ (b + a) % 2 ^ 32
sum_turned_word a b = omega arith

-- what the operation does with the number on its left
abbrev OnLeft : Operation → ℕ → Form → Type 0
OnLeft op n f = IsFormOf (λ x. made op (read_number op n) x) f

reg_left : (op : RegOp) (n : ℕ) (f : Form) → left_form (RegOperation op) (Number n) ≡ Some f → OnLeft (RegOperation op) n f
reg_left Add n f e =
    does_too (λ x. reg_value Add x (n % 2 ^ 64)) (λ x. reg_value Add (n % 2 ^ 64) x) f (λ x. sum_turned x (n % 2 ^ 64)) (reg_form_is Add n f e)
reg_left Xor n f e =
    does_too (λ x. reg_value Xor x (n % 2 ^ 64)) (λ x. reg_value Xor (n % 2 ^ 64) x) f (λ x. xor_comm x (n % 2 ^ 64)) (reg_form_is Xor n f e)
reg_left Or n f e =
    does_too (λ x. reg_value Or x (n % 2 ^ 64)) (λ x. reg_value Or (n % 2 ^ 64) x) f (λ x. or_comm x (n % 2 ^ 64)) (reg_form_is Or n f e)
reg_left And n f e =
    does_too (λ x. reg_value And x (n % 2 ^ 64)) (λ x. reg_value And (n % 2 ^ 64) x) f (λ x. and_comm x (n % 2 ^ 64)) (reg_form_is And n f e)
reg_left Sub n f e = nothing_given f e
reg_left Sll n f e = nothing_given f e
reg_left Slt n f e = nothing_given f e
reg_left Sltu n f e = nothing_given f e
reg_left Srl n f e = nothing_given f e
reg_left Sra n f e = nothing_given f e
reg_left Mul n f e =
    does_too (λ x. reg_value Mul x (n % 2 ^ 64)) (λ x. reg_value Mul (n % 2 ^ 64) x) f (λ x. ap (λ m. m % 2 ^ 64) (mul_comm x (n % 2 ^ 64))) (reg_form_is Mul n f e)
reg_left Mulh n f e = nothing_given f e
reg_left Mulhsu n f e = nothing_given f e
reg_left Mulhu n f e = nothing_given f e
reg_left Div n f e = nothing_given f e
reg_left Divu n f e = nothing_given f e
reg_left Rem n f e = nothing_given f e
reg_left Remu n f e = nothing_given f e

regw_left : (op : RegWOp) (n : ℕ) (f : Form) → left_form (RegWOperation op) (Number n) ≡ Some f → OnLeft (RegWOperation op) n f
regw_left Addw n f e =
    does_too (λ x. regw_value Addw x (n % 2 ^ 64)) (λ x. regw_value Addw (n % 2 ^ 64) x) f
    (λ x. ap sign_extended (sum_turned_word (x % 2 ^ 32) (n % 2 ^ 64 % 2 ^ 32))) (regw_form_is Addw n f e)
regw_left Subw n f e = nothing_given f e
regw_left Sllw n f e = nothing_given f e
regw_left Srlw n f e = nothing_given f e
regw_left Sraw n f e = nothing_given f e
regw_left Mulw n f e =
    does_too (λ x. regw_value Mulw x (n % 2 ^ 64)) (λ x. regw_value Mulw (n % 2 ^ 64) x) f
    (λ x. ap (λ m. sign_extended (m % 2 ^ 32)) (mul_comm (x % 2 ^ 32) (n % 2 ^ 64 % 2 ^ 32))) (regw_form_is Mulw n f e)
regw_left Divw n f e = nothing_given f e
regw_left Divuw n f e = nothing_given f e
regw_left Remw n f e = nothing_given f e
regw_left Remuw n f e = nothing_given f e

pub left_form_is : (op : Operation) (n : ℕ) (f : Form) → left_form op (Number n) ≡ Some f → OnLeft op n f
left_form_is (RegOperation op) n f e = reg_left op n f e
left_form_is (RegWOperation op) n f e = regw_left op n f e
left_form_is (Compare on L) n f e =
    does_too (λ x. truth (holds (turned on) L x (n % 2 ^ 64))) (λ x. truth (holds on L (n % 2 ^ 64) x)) f (λ x. ap truth (holds_turned on x (n % 2 ^ 64)))
    (number_form_is (Compare (turned on) L) n f e)
left_form_is (Compare on W) n f e =
    does_too (λ x. truth (holds (turned on) L x (word (n % 2 ^ 64)))) (λ x. truth (holds on L (word (n % 2 ^ 64)) x)) f
    (λ x. ap truth (holds_turned on x (word (n % 2 ^ 64)))) (number_form_is (Compare (turned on) W) n f e)
