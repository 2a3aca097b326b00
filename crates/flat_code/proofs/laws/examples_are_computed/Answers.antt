use Rattle.flat_code.proofs.Computed.{examples}
use Rattle.flat_code.proofs.laws.examples_are_computed.Goals as goal

pub returns : goal.returns
returns c = examples
