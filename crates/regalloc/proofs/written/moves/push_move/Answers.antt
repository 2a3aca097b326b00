use Rattle.std.proofs.Common.{arith}
use Rattle.std.proofs.lemmas.Grind.{common_steps}
use Rattle.regalloc.proofs.written.moves.push_move.Goals as goal

pub returns-in-Some-Some-Save : goal.returns-in-Some-Some-Save
returns-in-Some-Some-Save c = grind (arith, common_steps)
