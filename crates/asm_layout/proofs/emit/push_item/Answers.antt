use Rattle.std.proofs.Common.{arith}
use Rattle.std.proofs.lemmas.Grind.{common_steps}
use Rattle.asm_layout.proofs.emit.push_item.Goals as goal

pub push_branch-requires-clause-fits : goal.push_branch-requires-clause-fits
push_branch-requires-clause-fits c = grind (arith, common_steps)
