use Rattle.std.proofs.Common.{arith}
use Rattle.std.proofs.lemmas.Grind.{common_steps}
use Rattle.il_ast.proofs.few.Few.len.Goals as goal

pub len-requires : goal.len-requires
len-requires c = grind (arith, common_steps)
