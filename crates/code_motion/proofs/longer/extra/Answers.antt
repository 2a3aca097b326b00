use Rattle.std.proofs.Common.{arith}
use Rattle.std.proofs.lemmas.Grind.{common_steps}
use Rattle.code_motion.proofs.longer.extra.Goals as goal

pub loop-plan-preserved : goal.loop-plan-preserved
loop-plan-preserved c = grind (arith, common_steps)
