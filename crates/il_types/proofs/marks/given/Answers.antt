use Rattle.std.proofs.Common.{arith}
use Rattle.std.proofs.lemmas.Grind.{common_steps}
use Rattle.il_types.proofs.marks.given.Goals as goal

pub loop-definer-preserved : goal.loop-definer-preserved
loop-definer-preserved c = λ t. grind (arith, common_steps)
