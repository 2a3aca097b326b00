use Rattle.il_reader.proofs.Computed.{examples}
use Rattle.il_reader.proofs.laws.examples_are_computed.Goals as goal

pub returns : goal.returns
returns c = examples
