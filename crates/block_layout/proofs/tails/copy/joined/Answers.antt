use Rattle.std.proofs.Common.{rules}
use Rattle.block_layout.proofs.tails.copy.joined.Goals as goal

pub returns : goal.returns
returns c = search rules
