use Rattle.std.proofs.Common.{arith}
use Rattle.std.proofs.lemmas.Grind.{common_steps}
use Rattle.il_interp.proofs.jump.read_phis.Goals as goal

pub loop-phi-preserved : goal.loop-phi-preserved
loop-phi-preserved c = grind (arith, common_steps)

pub returns-in_err-push-in-Some-phi_value : goal.returns-in_err-push-in-Some-phi_value
returns-in_err-push-in-Some-phi_value c = grind (arith, common_steps)

pub returns-in_err-push-in-Some : goal.returns-in_err-push-in-Some
returns-in_err-push-in-Some c = grind (arith, common_steps)

pub returns-in-None-phi_value : goal.returns-in-None-phi_value
returns-in-None-phi_value c = grind (arith, common_steps)

pub returns : goal.returns
returns c = grind (arith, common_steps)
