use Rattle.promote.specs.Uses.{mentions_of, width_in}
use Rattle.promote.proofs.Rules.{limits_stay, same_weight, least_need}
use Rattle.promote.proofs.laws.limits_stay.Goals as goal

pub returns : goal.returns
returns c = λ f g r.
    let w = width_in (mentions_of f) in
    record { limits = limits_stay w f g r; weight = same_weight w f g r; need = least_need w f g r }
