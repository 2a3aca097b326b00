use Rattle.std.proofs.Common.{arith, rules}
use Rattle.std.proofs.lemmas.Grind.{common_steps}
use Rattle.il_interp.proofs.phi_numbers.read_numbers.Goals as goal

pub loop-at-preserved : goal.loop-at-preserved
loop-at-preserved c = grind (arith, common_steps)

pub returns-in_err-push-in-Some : goal.returns-in_err-push-in-Some
returns-in_err-push-in-Some c = grind (arith, common_steps)

pub returns-then-places-phis : goal.returns-then-places-phis
returns-then-places-phis c = search rules

pub returns-in-None : goal.returns-in-None
returns-in-None c = search rules

pub returns : goal.returns
returns c = grind (arith, common_steps)
