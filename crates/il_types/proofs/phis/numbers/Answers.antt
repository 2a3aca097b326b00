use Rattle.std.proofs.Common.{arith}
use Rattle.std.proofs.lemmas.Grind.{common_steps}
use Rattle.il_types.proofs.phis.numbers.Goals as goal

pub loop-site-preserved : goal.loop-site-preserved
loop-site-preserved c = grind (arith, common_steps)
