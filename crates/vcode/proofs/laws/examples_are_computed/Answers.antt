use Rattle.vcode.proofs.Computed.{examples}
use Rattle.vcode.proofs.laws.examples_are_computed.Goals as goal

pub returns : goal.returns
returns c = examples
