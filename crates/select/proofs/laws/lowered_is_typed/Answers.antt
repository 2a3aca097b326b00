use Rattle.select.proofs.LoweredTyping.{lowered_is_typed}
use Rattle.select.proofs.laws.lowered_is_typed.Goals as goal

pub returns : goal.returns
returns c = lowered_is_typed
