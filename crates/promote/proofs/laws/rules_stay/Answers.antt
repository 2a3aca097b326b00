use Rattle.promote.specs.Uses.{mentions_of, width_in}
use Rattle.promote.proofs.Respect.{all_respected}
use Rattle.promote.proofs.Rules.{rules_stay}
use Rattle.promote.proofs.laws.rules_stay.Goals as goal

pub returns : goal.returns
returns c = λ f g r. rules_stay (width_in (mentions_of f)) f g r (all_respected (mentions_of f))
