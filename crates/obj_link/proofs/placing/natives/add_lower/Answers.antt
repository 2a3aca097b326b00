use Rattle.std.proofs.Common.{arith}
use Rattle.std.proofs.lemmas.Grind.{common_steps}
use Rattle.obj_link.proofs.placing.natives.add_lower.Goals as goal

pub overflow_cast-split : goal.overflow_cast-split
overflow_cast-split c = grind (arith, common_steps)
