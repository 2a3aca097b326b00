use Rattle.std.proofs.Common.{arith}
use Rattle.std.proofs.lemmas.Grind.{common_steps}
use Rattle.il_ast.proofs.list.Seq.try_clone.Goals as goal

pub returns-in_err-push : goal.returns-in_err-push
returns-in_err-push c = grind (arith, common_steps)

pub returns-in_err-items : goal.returns-in_err-items
returns-in_err-items c = grind (arith, common_steps)
