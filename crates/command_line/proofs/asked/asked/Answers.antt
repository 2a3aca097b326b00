use Rattle.std.proofs.Common.{arith}
use Rattle.std.proofs.lemmas.Grind.{common_steps}
use Rattle.command_line.proofs.asked.asked.Goals as goal

pub returns-in_default-clause-asks : goal.returns-in_default-clause-asks
returns-in_default-clause-asks c = grind (arith, common_steps)

pub returns-clause-asks : goal.returns-clause-asks
returns-clause-asks c = grind (arith, common_steps)
