use Rattle.std.proofs.Common.{arith}
use Rattle.std.proofs.lemmas.Grind.{common_steps}
use Rattle.value_numbering.proofs.steps.carried.Goals as goal

pub loop-fact-preserved : goal.loop-fact-preserved
loop-fact-preserved c = grind (arith, common_steps)

pub loop-fact-init : goal.loop-fact-init
loop-fact-init c = grind (arith, common_steps)

pub returns : goal.returns
returns c = grind (arith, common_steps)
