use Rattle.std.proofs.Common.{arith}
use Rattle.std.proofs.lemmas.Grind.{common_steps}
use Rattle.asm_layout.proofs.jump.push_branch.Goals as goal

pub near_branch-requires-clause-ahead : goal.near_branch-requires-clause-ahead
near_branch-requires-clause-ahead c = grind (arith, common_steps)

pub returns-in_err-push-in-Short : goal.returns-in_err-push-in-Short
returns-in_err-push-in-Short c = grind (arith, common_steps)
