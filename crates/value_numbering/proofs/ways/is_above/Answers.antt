use Rattle.std.proofs.Common.{◌≡◌, ℕ, ◌-◌, ◌^◌, Bool, true, ◌&&◌, Option, sym, ◌∙◌, subst, List}
use Rattle.std.proofs.lemmas.Bool.{and_parts}
use Rattle.vcode.specs.declared.place.Operand.TheVariants.{At}
use Rattle.value_numbering.specs.declared.fact.Expression.{Expression}
use Rattle.value_numbering.specs.declared.fact.Expression.TheVariants.{Growing}
use Rattle.value_numbering.specs.declared.fact.Fact.{Fact}
use Rattle.value_numbering.specs.declared.ways.Order.{Order}
use Rattle.value_numbering.specs.Reused.{IsKnown, Above, exceeds, holds_word}
use Rattle.value_numbering.proofs.ways.is_above.Goals as goal

above : (marks : List Bool) (facts : List Fact) (order : Option Order) (f : Fact) (r : ℕ) → f.value ≡ Growing (At r) (2 ^ 64 - 1) → r ≡ f.register → (exceeds marks facts order r && holds_word marks facts r) ≡ true → IsKnown marks facts order f
above marks facts order f r is same h =
    let s = and_parts (exceeds marks facts order r) (holds_word marks facts r) h in
    subst (λ (v : Expression). IsKnown marks facts order (record { register = f.register; value = v })) (sym is)
    (subst (λ (k : ℕ). IsKnown marks facts order (record { register = k; value = Growing (At r) (2 ^ 64 - 1) })) same (Above s.0 s.1))

pub returns-else-register-wanted : goal.returns-else-register-wanted
returns-else-register-wanted c =
    λ h. above c.args.marks.now c.args.facts.now c.args.order.now c.args.wanted.now c.in-Some.register c.in-Some.ensures c.if-register-wanted.false (sym c.may_shrink.ensures ∙ h)
