use Rattle.std.proofs.Common.{rules}
use Rattle.propagation.proofs.constants.table.set_time.Goals as goal

pub returns-in-Some : goal.returns-in-Some
returns-in-Some c = search rules
