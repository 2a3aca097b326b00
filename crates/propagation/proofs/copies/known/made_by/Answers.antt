use Rattle.std.proofs.Common.{rules}
use Rattle.propagation.proofs.copies.known.made_by.Goals as goal

pub returns-else-to-from : goal.returns-else-to-from
returns-else-to-from c = search rules
