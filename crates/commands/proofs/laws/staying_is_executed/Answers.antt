use Rattle.commands.proofs.Staying.{staying_is_executed}
use Rattle.commands.proofs.laws.staying_is_executed.Goals as goal

pub returns : goal.returns
returns c = staying_is_executed
