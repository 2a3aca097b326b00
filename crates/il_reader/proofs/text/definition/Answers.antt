use Rattle.std.proofs.Common.{arith}
use Rattle.std.proofs.lemmas.Grind.{common_steps}
use Rattle.il_reader.proofs.text.definition.Goals as goal

pub returns-in_err-object : goal.returns-in_err-object
returns-in_err-object c = grind (arith, common_steps)

pub returns-in_err-exported : goal.returns-in_err-exported
returns-in_err-exported c = grind (arith, common_steps)

pub returns-in_err-function : goal.returns-in_err-function
returns-in_err-function c = grind (arith, common_steps)
