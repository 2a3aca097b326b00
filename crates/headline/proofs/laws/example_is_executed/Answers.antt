use Rattle.headline.proofs.ExampleStart.{example_is_executed}
use Rattle.headline.proofs.laws.example_is_executed.Goals as goal

pub returns : goal.returns
returns c = example_is_executed
