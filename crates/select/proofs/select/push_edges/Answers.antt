use Rattle.std.proofs.Common.{arith}
use Rattle.std.proofs.lemmas.Grind.{common_steps}
use Rattle.select.proofs.select.push_edges.Goals as goal

pub loop-ending-preserved : goal.loop-ending-preserved
loop-ending-preserved c = grind (arith, common_steps)
