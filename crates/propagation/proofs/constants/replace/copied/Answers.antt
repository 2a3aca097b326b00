use Rattle.std.proofs.Common.{◌≡◌, ℕ, if◌then◌else◌, Option, Some, None, refl, ◌∙◌, ap}
use Rattle.std.specs.Option.{option_map_or}
use Rattle.vcode.specs.declared.place.Operand.{Operand}
use Rattle.vcode.specs.declared.place.Operand.TheVariants.{At}
use Rattle.propagation.specs.declared.constants.fact.Fact.{Fact}
use Rattle.propagation.specs.declared.constants.fact.Fact.TheVariants.{Same, Sum, Test}
use Rattle.propagation.specs.FactTable.{facts_of, copy_of}
use Rattle.propagation.specs.Forwarded.{is_short, copied}
use Rattle.propagation.proofs.constants.replace.copied.Goals as goal

of_copy : (r : ℕ) (o : Option Fact) → option_map_or (λ a. if is_short a then a else At r) (copy_of o) (At r) ≡ option_map_or (copied (At r)) o (At r)
of_copy r None = refl
of_copy r (Some (Same a)) = refl
of_copy r (Some (Sum a n)) = refl
of_copy r (Some (Test c)) = refl

pub returns : goal.returns
returns c =
    let r = c.args.register in
    c.in_place.ensures ∙ ap (λ (o : Option (Operand ℕ)). option_map_or (λ a. if is_short a then a else At r) o (At r)) c.copy.ensures ∙ of_copy r (facts_of c.args.table.now r)
