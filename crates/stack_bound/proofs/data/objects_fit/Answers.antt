use Rattle.std.proofs.Common.{arith}
use Rattle.std.proofs.lemmas.Grind.{common_steps}
use Rattle.stack_bound.proofs.data.objects_fit.Goals as goal

pub loop-object-preserved : goal.loop-object-preserved
loop-object-preserved c = grind (arith, common_steps)
