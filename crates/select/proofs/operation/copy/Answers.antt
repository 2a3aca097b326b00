use Rattle.std.proofs.Common.{rules}
use Rattle.select.proofs.operation.copy.Goals as goal

pub returns-in-L : goal.returns-in-L
returns-in-L c = search rules
