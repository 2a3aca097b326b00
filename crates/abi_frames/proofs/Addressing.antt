-- Where an address leads, by what its base holds.
use Rattle.std.proofs.Common.{◌≡◌, ℕ, ◌+◌, ◌%◌, ◌^◌, ◌<◌, Bool, true, false, Option, Some, None, refl, ◌∙◌, ap, arith, nat_eq, if◌then◌else◌}
use Rattle.abi_frames.proofs.Shared.{State, Location, Operand, Immediate, same_Some, nat_tests, moved, is_place, operand_keeps}
use Rattle.rv_isa.specs.declared.instruction.RegOp.TheVariants.{Add}
use Rattle.vcode.specs.declared.place.Address.{Address}
use Rattle.vcode.specs.declared.line.Operation.TheVariants.{Reg}
use Rattle.vcode.specs.Prelude.{distance}
use Rattle.flat_code.specs.Flat.{Spots}
use Rattle.flat_code.specs.Step.{Numbers, number_of, computed, operated, address_of}
use Rattle.abi_frames.proofs.Activations.{Setting, IsSetting, operand_in, Framed, operand_known}

-- the offset from the operand leads to p
abbrev pub IsBeyond : Setting → State → Operand Location → Immediate → ℕ → Type 0
IsBeyond c s a o p = (x : ℕ) → x ≡ operand_in c s a → x < 2 ^ 64 → moved x o.value ≡ p

abbrev pub IsBased : Setting → State → Address Location → ℕ → Type 0
IsBased c s at p = IsBeyond c s at.base at.offset p

not_moved : (x d : ℕ) → x < 2 ^ 64 → nat_eq d 0 ≡ true → (x + d) % 2 ^ 64 ≡ x
not_moved x d small none = let e : d ≡ 0 = zero d none in omega (arith, e, small)
  where
    zero : (d : ℕ) → nat_eq d 0 ≡ true → d ≡ 0
    zero d h = grind (arith, nat_tests)

sum_is : (b d p : ℕ) → Some (computed (Reg Add) b (d % 2 ^ 64)) ≡ Some p → (b + d) % 2 ^ 64 ≡ p
unfolding computed
sum_is b d p e = let s : (b + d % 2 ^ 64) % 2 ^ 64 ≡ p = same_Some ((b + d % 2 ^ 64) % 2 ^ 64) p e in omega (arith, s)

pub is_based : (c : Setting) (numbers : Numbers) (memory : Spots) (u : State) (at : Address Location) (p : ℕ) → IsSetting c
    → Framed c numbers memory u → operand_keeps (is_place c.slots) at.base ≡ true → address_of c.addresses numbers at ≡ Some p → IsBased c u at p
is_based c numbers memory u at p is framed good known = by_test (nat_eq (distance at) 0) refl known
  where
    by_base : (o : Option ℕ) → number_of c.addresses numbers at.base ≡ o → operated (Reg Add) o (Some (distance at % 2 ^ 64)) ≡ Some p → IsBased c u at p
    by_base None e h x same small = absurd (let no : ⊥ = cc in no)
    by_base (Some b) e h x same small =
        ap (λ y. moved y at.offset.value) (same ∙ operand_known c numbers memory u at.base b is framed good e) ∙ sum_is b (distance at) p h

    by_test : (t : Bool) → nat_eq (distance at) 0 ≡ t
        → (if t then number_of c.addresses numbers at.base else operated (Reg Add) (number_of c.addresses numbers at.base) (Some (distance at % 2 ^ 64))) ≡ Some p
        → IsBased c u at p
    by_test true e h x same small = not_moved x (distance at) small e ∙ (same ∙ operand_known c numbers memory u at.base p is framed good h)
    by_test false e h x same small = by_base (number_of c.addresses numbers at.base) refl h x same small
