use Rattle.promote.specs.Uses.{mentions_of, width_in}
use Rattle.promote.proofs.Respect.{all_respected}
use Rattle.promote.proofs.Rules.{rules_stay, limits_stay}
use Rattle.step_by_step.proofs.phis.promoted_code.Goals as goal

pub code_of-requires : goal.code_of-requires
code_of-requires c =
    let f = c.args.function.now in
    let g = c.in-Ok.promoted in
    let w = width_in (mentions_of f) in
    record {
      rules = rules_stay w f g c.in-Ok.ensures (all_respected (mentions_of f)) c.requires.rules;
      limits = limits_stay w f g c.in-Ok.ensures c.requires.limits;
    }
