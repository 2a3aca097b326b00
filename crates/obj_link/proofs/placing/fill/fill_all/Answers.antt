use Rattle.std.proofs.Common.{arith}
use Rattle.std.proofs.lemmas.Grind.{common_steps}
use Rattle.obj_link.proofs.placing.fill.fill_all.Goals as goal

pub loop-hole-preserved : goal.loop-hole-preserved
loop-hole-preserved c = grind (arith, common_steps)
