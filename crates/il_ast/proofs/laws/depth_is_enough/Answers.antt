use Rattle.il_ast.proofs.SameDepth.{same_callees}
use Rattle.il_ast.proofs.laws.depth_is_enough.Goals as goal

pub returns : goal.returns
returns c = same_callees
