use Rattle.std.proofs.Common.{rules}
use Rattle.value_numbering.proofs.known.widened.Goals as goal

pub returns : goal.returns
returns c = search rules
