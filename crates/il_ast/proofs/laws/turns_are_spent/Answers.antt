use Rattle.il_ast.proofs.Pacing.{turns_are_spent}
use Rattle.il_ast.proofs.laws.turns_are_spent.Goals as goal

pub returns : goal.returns
returns c = turns_are_spent
