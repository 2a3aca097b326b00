use Rattle.std.proofs.Common.{arith}
use Rattle.std.proofs.lemmas.Grind.{common_steps}
use Rattle.promote.proofs.standing.standings.Goals as goal

pub loop-mention-preserved : goal.loop-mention-preserved
loop-mention-preserved c = grind (arith, common_steps)
