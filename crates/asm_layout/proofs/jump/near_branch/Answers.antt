use Rattle.std.proofs.Common.{arith}
use Rattle.std.proofs.lemmas.Grind.{common_steps}
use Rattle.asm_layout.proofs.jump.near_branch.Goals as goal

pub returns : goal.returns
returns c = grind (arith, common_steps)

pub overflow_cast-distance : goal.overflow_cast-distance
overflow_cast-distance c = grind (arith, common_steps)
