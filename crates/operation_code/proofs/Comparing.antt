-- What the code of comparisons does.
use Rattle.std.proofs.Common.{◌≡◌, ℕ, ◌+◌, ◌-◌, ◌%◌, ◌^◌, ◌<◌, Bool, true, false, List, [], ◌∷◌, refl, ◌∙◌, ap, subst, arith, not, nat_eq, nat_lt, nat_le, int_lt, int_le, ℤ, pos, negsuc}
use Rattle.std.specs.Int.{cast_signed, w64}
use Rattle.std.proofs.lemmas.Bool.Decides.{nat_tests}
use Rattle.il_ast.specs.declared.operation.Class.TheVariants.{L}
use Rattle.il_ast.specs.declared.operation.Condition.{Condition}
use Rattle.il_ast.specs.declared.operation.Condition.TheVariants.{Equal, NotEqual, SignedLessEqual, SignedLess, SignedGreaterEqual, SignedGreater, UnsignedLessEqual, UnsignedLess, UnsignedGreaterEqual, UnsignedGreater}
use Rattle.il_ast.specs.Prelude.{holds, truth}
use Rattle.rv_isa.specs.Prelude.{State, register, imm_value, truth as bit_of}
use Rattle.rv_isa.specs.declared.instruction.Instr.TheVariants.{Reg, Imm}
use Rattle.rv_isa.specs.declared.instruction.ImmOp.TheVariants.{Xori, Sltiu}
use Rattle.rv_isa.specs.declared.instruction.RegOp.TheVariants.{Sub, Slt, Sltu}
use Rattle.rv_isa.specs.declared.labelled.Item.{Item}
use Rattle.rv_isa.specs.declared.labelled.Item.TheVariants.{Plain}
use Rattle.vcode.specs.Prelude.{low}
use Rattle.operation_code.specs.Constants.{reg, negate, is_zero, is_not_zero}
use Rattle.operation_code.specs.Immediates.{compare_items}
use Rattle.operation_code.proofs.Leading.{Site, Leads, leads_fixed, leads_again, leads_set, Sets, IsReg, register_reg, in_register, in_register_small}
use Rattle.operation_code.proofs.Instructions.{leads_reg}

-- ---- truth values

pub bit_is : (b : Bool) → bit_of b ≡ truth b
bit_is true = refl
bit_is false = refl

pub negated : (b : Bool) → imm_value Xori (bit_of b) (low 1).value ≡ truth (not b)
negated true = refl
negated false = refl

pub le_is_not_lt : (a b : ℕ) → not (nat_lt b a) ≡ nat_le a b
le_is_not_lt a b = grind (arith, nat_tests)

pub int_le_is : (x y : ℤ) → not (int_lt y x) ≡ int_le x y
int_le_is (pos a) (pos b) = grind (arith, nat_tests)
int_le_is (pos a) (negsuc b) = refl
int_le_is (negsuc a) (pos b) = refl
int_le_is (negsuc a) (negsuc b) = grind (arith, nat_tests)

pub signed_le_is_not_lt : (a b : ℕ) → not (int_lt (cast_signed w64 b) (cast_signed w64 a)) ≡ int_le (cast_signed w64 a) (cast_signed w64 b)
signed_le_is_not_lt a b = int_le_is (cast_signed w64 a) (cast_signed w64 b)

pub zero_difference : (a b : ℕ) → a < 2 ^ 64 → b < 2 ^ 64 → nat_lt ((a + (2 ^ 64 - b)) % 2 ^ 64) 1 ≡ nat_eq a b
zero_difference a b h k = grind (arith, nat_tests)

pub some_difference : (a b : ℕ) → a < 2 ^ 64 → b < 2 ^ 64 → nat_lt 0 ((a + (2 ^ 64 - b)) % 2 ^ 64) ≡ not (nat_eq a b)
some_difference a b h k = grind (arith, nat_tests)

-- ---- a comparison of two registers

pub sets_as : (c : Site) (is : List Item) (s : State) (d v w : ℕ) → v ≡ w → Leads c is s (Sets s d v) → Leads c is s (Sets s d w)
sets_as c is s d v w e h = subst (λ x. Leads c is s (Sets s d x)) e h

leads_negate : (c : Site) (s : State) (d : ℕ) (b : Bool) → IsReg d → s.registers d ≡ bit_of b → Leads c (negate d ∷ []) s (Sets s d (truth (not b)))
leads_negate c s d b is held =
    leads_set c s (Imm Xori (reg d) (reg d) (low 1)) d (imm_value Xori (register s (reg d)) (low 1).value) (truth (not b)) is refl
    (ap (λ x. imm_value Xori x (low 1).value) (register_reg s d is ∙ held) ∙ negated b)

-- less, and not less
leads_less : (c : Site) (s : State) (d a b : ℕ) → IsReg d
    → Leads c (Plain (Reg Slt (reg d) (reg a) (reg b)) ∷ []) s (Sets s d (bit_of (int_lt (cast_signed w64 (in_register s a)) (cast_signed w64 (in_register s b)))))
leads_less c s d a b is = leads_reg c s Slt d a b is

leads_below : (c : Site) (s : State) (d a b : ℕ) → IsReg d
    → Leads c (Plain (Reg Sltu (reg d) (reg a) (reg b)) ∷ []) s (Sets s d (bit_of (nat_lt (in_register s a) (in_register s b))))
leads_below c s d a b is = leads_reg c s Sltu d a b is

pub then_negate : (c : Site) (s : State) (i : Item) (d : ℕ) (b t : Bool) → IsReg d → not b ≡ t → Leads c (i ∷ []) s (Sets s d (bit_of b))
    → Leads c (i ∷ negate d ∷ []) s (Sets s d (truth t))
then_negate c s i d b t is e first =
    leads_again c (i ∷ []) (negate d ∷ []) s d (bit_of b) (truth t) first
    (λ u fixed one. sets_as c (negate d ∷ []) u d (truth (not b)) (truth t) (ap truth e) (leads_negate c u d b is one.value))

leads_equal : (c : Site) (s : State) (d a b : ℕ) → IsReg d
    → Leads c (compare_items Equal d a b) s (Sets s d (truth (nat_eq (in_register s a) (in_register s b))))
leads_equal c s d a b is =
    leads_fixed c (compare_items Equal d a b) s (Sets s d (truth (nat_eq (in_register s a) (in_register s b))))
    (λ fixed.
    let x : ℕ = (in_register s a + (2 ^ 64 - in_register s b)) % 2 ^ 64 in
    leads_again c (Plain (Reg Sub (reg d) (reg a) (reg b)) ∷ []) (is_zero d d ∷ []) s d x (truth (nat_eq (in_register s a) (in_register s b)))
    (leads_reg c s Sub d a b is)
    (λ u f one.
    leads_set c u (Imm Sltiu (reg d) (reg d) (low 1)) d (bit_of (nat_lt (register u (reg d)) 1)) (truth (nat_eq (in_register s a) (in_register s b))) is refl
    (ap (λ n. bit_of (nat_lt n 1)) (register_reg u d is ∙ one.value)
    ∙ (ap bit_of (zero_difference (in_register s a) (in_register s b) (in_register_small c.ground s a fixed) (in_register_small c.ground s b fixed)) ∙ bit_is (nat_eq (in_register s a) (in_register s b))))))

leads_unequal : (c : Site) (s : State) (d a b : ℕ) → IsReg d
    → Leads c (compare_items NotEqual d a b) s (Sets s d (truth (not (nat_eq (in_register s a) (in_register s b)))))
leads_unequal c s d a b is =
    leads_fixed c (compare_items NotEqual d a b) s (Sets s d (truth (not (nat_eq (in_register s a) (in_register s b)))))
    (λ fixed.
    let x : ℕ = (in_register s a + (2 ^ 64 - in_register s b)) % 2 ^ 64 in
    let t : Bool = not (nat_eq (in_register s a) (in_register s b)) in
    leads_again c (Plain (Reg Sub (reg d) (reg a) (reg b)) ∷ []) (is_not_zero d d ∷ []) s d x (truth t)
    (leads_reg c s Sub d a b is)
    (λ u f one.
    leads_set c u (Reg Sltu (reg d) (reg 0) (reg d)) d (bit_of (nat_lt 0 (register u (reg d)))) (truth t) is refl
    (ap (λ n. bit_of (nat_lt 0 n)) (register_reg u d is ∙ one.value)
    ∙ (ap bit_of (some_difference (in_register s a) (in_register s b) (in_register_small c.ground s a fixed) (in_register_small c.ground s b fixed)) ∙ bit_is t))))

pub leads_compare : (c : Site) (s : State) (on : Condition) (d a b : ℕ) → IsReg d
    → Leads c (compare_items on d a b) s (Sets s d (truth (holds on L (in_register s a) (in_register s b))))
leads_compare c s Equal d a b is = leads_equal c s d a b is
leads_compare c s NotEqual d a b is = leads_unequal c s d a b is
leads_compare c s SignedLess d a b is =
    sets_as c (compare_items SignedLess d a b) s d (bit_of (holds SignedLess L (in_register s a) (in_register s b)))
    (truth (holds SignedLess L (in_register s a) (in_register s b))) (bit_is (holds SignedLess L (in_register s a) (in_register s b))) (leads_less c s d a b is)
leads_compare c s SignedGreater d a b is =
    sets_as c (compare_items SignedGreater d a b) s d (bit_of (holds SignedGreater L (in_register s a) (in_register s b)))
    (truth (holds SignedGreater L (in_register s a) (in_register s b))) (bit_is (holds SignedGreater L (in_register s a) (in_register s b))) (leads_less c s d b a is)
leads_compare c s UnsignedLess d a b is =
    sets_as c (compare_items UnsignedLess d a b) s d (bit_of (holds UnsignedLess L (in_register s a) (in_register s b)))
    (truth (holds UnsignedLess L (in_register s a) (in_register s b))) (bit_is (holds UnsignedLess L (in_register s a) (in_register s b))) (leads_below c s d a b is)
leads_compare c s UnsignedGreater d a b is =
    sets_as c (compare_items UnsignedGreater d a b) s d (bit_of (holds UnsignedGreater L (in_register s a) (in_register s b)))
    (truth (holds UnsignedGreater L (in_register s a) (in_register s b))) (bit_is (holds UnsignedGreater L (in_register s a) (in_register s b))) (leads_below c s d b a is)
leads_compare c s SignedLessEqual d a b is =
    then_negate c s (Plain (Reg Slt (reg d) (reg b) (reg a))) d (holds SignedLess L (in_register s b) (in_register s a)) (holds SignedLessEqual L (in_register s a) (in_register s b)) is
    (signed_le_is_not_lt (in_register s a) (in_register s b)) (leads_less c s d b a is)
leads_compare c s SignedGreaterEqual d a b is =
    then_negate c s (Plain (Reg Slt (reg d) (reg a) (reg b))) d (holds SignedLess L (in_register s a) (in_register s b)) (holds SignedGreaterEqual L (in_register s a) (in_register s b)) is
    (signed_le_is_not_lt (in_register s b) (in_register s a)) (leads_less c s d a b is)
leads_compare c s UnsignedLessEqual d a b is =
    then_negate c s (Plain (Reg Sltu (reg d) (reg b) (reg a))) d (nat_lt (in_register s b) (in_register s a)) (holds UnsignedLessEqual L (in_register s a) (in_register s b)) is
    (le_is_not_lt (in_register s a) (in_register s b)) (leads_below c s d b a is)
leads_compare c s UnsignedGreaterEqual d a b is =
    then_negate c s (Plain (Reg Sltu (reg d) (reg a) (reg b))) d (nat_lt (in_register s a) (in_register s b)) (holds UnsignedGreaterEqual L (in_register s a) (in_register s b)) is
    (le_is_not_lt (in_register s b) (in_register s a)) (leads_below c s d a b is)
