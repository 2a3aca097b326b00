use Rattle.std.proofs.Common.{rules}
use Rattle.propagation.proofs.constants.propagate.changes_memory.Goals as goal

pub returns-in_default : goal.returns-in_default
returns-in_default c = search rules
