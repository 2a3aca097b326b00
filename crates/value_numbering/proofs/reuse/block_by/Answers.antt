use Rattle.std.proofs.Common.{rules}
use Rattle.value_numbering.proofs.reuse.block_by.Goals as goal

pub returns : goal.returns
returns c = search rules
