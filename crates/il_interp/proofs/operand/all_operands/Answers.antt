use Rattle.std.proofs.Common.{arith}
use Rattle.std.proofs.lemmas.Grind.{common_steps}
use Rattle.il_interp.proofs.operand.all_operands.Goals as goal

pub loop-arg-preserved : goal.loop-arg-preserved
loop-arg-preserved c = grind (arith, common_steps)

pub returns-in_err-push-in-Some : goal.returns-in_err-push-in-Some
returns-in_err-push-in-Some c = grind (arith, common_steps)

pub returns-in-None : goal.returns-in-None
returns-in-None c = grind (arith, common_steps)

pub returns : goal.returns
returns c = grind (arith, common_steps)
