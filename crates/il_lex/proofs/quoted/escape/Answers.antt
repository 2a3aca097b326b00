use Rattle.std.proofs.Common.{arith}
use Rattle.std.proofs.lemmas.Grind.{common_steps}
use Rattle.il_lex.proofs.quoted.escape.Goals as goal

pub returns-in_err-c-clause-value : goal.returns-in_err-c-clause-value
returns-in_err-c-clause-value c = grind (arith, common_steps)
