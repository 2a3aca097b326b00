use Rattle.std.proofs.Common.{arith}
use Rattle.std.proofs.lemmas.Grind.{common_steps}
use Rattle.inlining.proofs.brought.+push_arguments.Goals as goal

pub returns-in_ok-push-in-len1-up-args : goal.returns-in_ok-push-in-len1-up-args
returns-in_ok-push-in-len1-up-args t c = grind (arith, common_steps)
