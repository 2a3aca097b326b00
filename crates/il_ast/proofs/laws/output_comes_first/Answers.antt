use Rattle.il_ast.proofs.Pacing.{output_comes_first}
use Rattle.il_ast.proofs.laws.output_comes_first.Goals as goal

pub returns : goal.returns
returns c = output_comes_first
