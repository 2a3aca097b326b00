use Rattle.std.proofs.Common.{arith}
use Rattle.std.proofs.lemmas.Grind.{common_steps}
use Rattle.il_reader.proofs.text.push_definition.Goals as goal

pub returns-in_err-definition : goal.returns-in_err-definition
returns-in_err-definition c = grind (arith, common_steps)

pub returns-in_err-push : goal.returns-in_err-push
returns-in_err-push c = grind (arith, common_steps)
