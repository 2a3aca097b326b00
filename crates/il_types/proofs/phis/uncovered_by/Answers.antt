use Rattle.std.proofs.Common.{arith}
use Rattle.std.proofs.lemmas.Grind.{common_steps}
use Rattle.il_types.proofs.phis.uncovered_by.Goals as goal

pub returns-then-is_empty-clause-line : goal.returns-then-is_empty-clause-line
returns-then-is_empty-clause-line c = grind (arith, common_steps)
