-- Which branches of the machine are taken.
use Rattle.std.proofs.Common.{◌≡◌, ℕ, ◌+◌, ◌%◌, ◌^◌, Bool, List, ◌∷◌, refl, sym, ◌∙◌, ap, subst, arith, lit<, mod-lt, ◌==◌, not, nat_eq, nat_lt, int_lt, if◌then◌else◌}
use Rattle.std.specs.Int.{cast_signed, w64}
use Rattle.abi_frames.proofs.Shared.{Class, W, L, Condition, State, Item, longest_size, nat_tests}
use Rattle.il_ast.specs.declared.operation.Condition.TheVariants.{Equal, NotEqual, SignedLessEqual, SignedLess, SignedGreaterEqual, SignedGreater, UnsignedLessEqual, UnsignedLess, UnsignedGreaterEqual, UnsignedGreater}
use Rattle.il_ast.specs.Prelude.{holds}
use Rattle.rv_isa.specs.declared.ranges.Register.{Register}
use Rattle.rv_isa.specs.declared.instruction.BranchOp.{BranchOp}
use Rattle.rv_isa.specs.declared.instruction.BranchOp.TheVariants.{Beq, Bne, Blt, Bge, Bltu, Bgeu}
use Rattle.rv_isa.specs.declared.labelled.Item.TheVariants.{Branch}
use Rattle.operation_code.specs.Constants.{reg}
use Rattle.rv_isa.specs.Prelude.{Fixed, Stands, Moves}
use Rattle.vcode.specs.declared.line.Operation.TheVariants.{Compare}
use Rattle.vcode.proofs.Comparing.{holds_extended}
use Rattle.flat_code.specs.Step.{taken as taken_as}
use Rattle.abi_frames.specs.Emission.{branch_when, inverted}
use Rattle.operation_code.proofs.Leading.{Site, in_register}
use Rattle.operation_code.proofs.Comparing.{le_is_not_lt, signed_le_is_not_lt}
use Rattle.operation_code.proofs.Forms.{as_read}
use Rattle.il_ast.proofs.Truth.{not_not}

same_test : (a b : ℕ) → (a == b) ≡ nat_eq a b
same_test a b = grind (arith, nat_tests)

-- what holds where the condition doesn't
pub inverted_holds : (on : Condition) (a b : ℕ) → holds (inverted on) L a b ≡ not (holds on L a b)
inverted_holds Equal a b = refl
inverted_holds NotEqual a b = sym (not_not (nat_eq a b))
inverted_holds SignedLess a b = sym (signed_le_is_not_lt b a)
inverted_holds SignedGreater a b = sym (signed_le_is_not_lt a b)
inverted_holds SignedLessEqual a b = sym (not_not (int_lt (cast_signed w64 b) (cast_signed w64 a))) ∙ ap not (signed_le_is_not_lt a b)
inverted_holds SignedGreaterEqual a b = sym (not_not (int_lt (cast_signed w64 a) (cast_signed w64 b))) ∙ ap not (signed_le_is_not_lt b a)
inverted_holds UnsignedLess a b = sym (le_is_not_lt b a)
inverted_holds UnsignedGreater a b = sym (le_is_not_lt a b)
inverted_holds UnsignedLessEqual a b = sym (not_not (nat_lt b a)) ∙ ap not (le_is_not_lt a b)
inverted_holds UnsignedGreaterEqual a b = sym (not_not (nat_lt a b)) ∙ ap not (le_is_not_lt b a)

-- it goes to the label where the condition holds
abbrev Goes : Site → State → (from to : ℕ) → Bool → Type 0
Goes c s b l t = Moves c.ground 3 (if t then c.label l else b) s

pub when_taken : (c : Site) (s : State) (on : Condition) (x y l p q : ℕ) → Fixed c.ground s → s.pc ≡ p → Stands c.ground c.label c.global (branch_when on x y l) p q
    → Goes c s q l (holds on L (in_register s x) (in_register s y))
unfolding Stands
when_taken c s Equal x y l p q fixed at h = subst (Goes c s q l) (same_test (in_register s x) (in_register s y)) (h s fixed at)
when_taken c s NotEqual x y l p q fixed at h = subst (Goes c s q l) (ap not (same_test (in_register s x) (in_register s y))) (h s fixed at)
when_taken c s SignedLess x y l p q fixed at h = h s fixed at
when_taken c s SignedGreater x y l p q fixed at h = h s fixed at
when_taken c s SignedLessEqual x y l p q fixed at h = subst (Goes c s q l) (signed_le_is_not_lt (in_register s x) (in_register s y)) (h s fixed at)
when_taken c s SignedGreaterEqual x y l p q fixed at h = subst (Goes c s q l) (signed_le_is_not_lt (in_register s y) (in_register s x)) (h s fixed at)
when_taken c s UnsignedLess x y l p q fixed at h = h s fixed at
when_taken c s UnsignedGreater x y l p q fixed at h = h s fixed at
when_taken c s UnsignedLessEqual x y l p q fixed at h = subst (Goes c s q l) (le_is_not_lt (in_register s x) (in_register s y)) (h s fixed at)
when_taken c s UnsignedGreaterEqual x y l p q fixed at h = subst (Goes c s q l) (le_is_not_lt (in_register s y) (in_register s x)) (h s fixed at)

-- whichever branch it is
pub whichever : (P : Item → Type 0) (on : Condition) (v w l : ℕ) → ((op : BranchOp) (a b : Register) → P (Branch op a b l)) → P (branch_when on v w l)
whichever P Equal v w l is = is Beq (reg v) (reg w)
whichever P NotEqual v w l is = is Bne (reg v) (reg w)
whichever P SignedLess v w l is = is Blt (reg v) (reg w)
whichever P SignedGreater v w l is = is Blt (reg w) (reg v)
whichever P SignedLessEqual v w l is = is Bge (reg w) (reg v)
whichever P SignedGreaterEqual v w l is = is Bge (reg v) (reg w)
whichever P UnsignedLess v w l is = is Bltu (reg v) (reg w)
whichever P UnsignedGreater v w l is = is Bltu (reg w) (reg v)
whichever P UnsignedLessEqual v w l is = is Bgeu (reg w) (reg v)
whichever P UnsignedGreaterEqual v w l is = is Bgeu (reg v) (reg w)

pub branch_size : (on : Condition) (v w l : ℕ) (is : List Item) → longest_size (branch_when on v w l ∷ is) ≡ 3 + longest_size is
branch_size on v w l is = whichever (λ i. longest_size (i ∷ is) ≡ 3 + longest_size is) on v w l (λ op a b. refl)

-- words are compared as their extensions
pub read_holds : (on : Condition) (k : Class) (x y : ℕ) → holds on L (as_read (Compare on k) x) (as_read (Compare on k) y) ≡ holds on k (taken_as k x) (taken_as k y)
read_holds on L x y = refl
read_holds on W x y = holds_extended on (x % 2 ^ 32) (y % 2 ^ 32) (mod-lt x (lit< tt)) (mod-lt y (lit< tt))
