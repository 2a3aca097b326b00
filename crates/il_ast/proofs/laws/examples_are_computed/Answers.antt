use Rattle.il_ast.proofs.Computed.{examples}
use Rattle.il_ast.proofs.laws.examples_are_computed.Goals as goal

pub returns : goal.returns
returns c = examples
