use Rattle.std.proofs.Common.{◌∙◌}
use Rattle.il_types.proofs.TallyLemmas.{repeated_by}
use Rattle.il_types.proofs.phis.first_repeated.Goals as goal

pub returns : goal.returns
returns c = c.first_again.ensures ∙ repeated_by c.args.tally.now c.args.sites.now c.requires
