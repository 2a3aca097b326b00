use Rattle.std.proofs.Common.{arith}
use Rattle.std.proofs.lemmas.Grind.{common_steps}
use Rattle.il_interp.proofs.prepare.needs.Goals as goal

pub loop-function-preserved : goal.loop-function-preserved
loop-function-preserved c = grind (arith, common_steps)
