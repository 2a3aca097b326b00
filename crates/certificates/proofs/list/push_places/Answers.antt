use Rattle.std.proofs.Common.{arith}
use Rattle.std.proofs.lemmas.Grind.{common_steps}
use Rattle.certificates.proofs.list.push_places.Goals as goal

pub loop-uses-preserved : goal.loop-uses-preserved
loop-uses-preserved c = grind (arith, common_steps)
