use Rattle.il_ast.proofs.GoingOn.{meaning_grows}
use Rattle.il_ast.proofs.laws.output_grows.Goals as goal

pub returns : goal.returns
returns c = meaning_grows
