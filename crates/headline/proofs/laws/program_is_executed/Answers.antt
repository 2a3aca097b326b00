use Rattle.headline.proofs.Executed.{program_is_executed}
use Rattle.headline.proofs.laws.program_is_executed.Goals as goal

pub returns : goal.returns
returns c = program_is_executed
