use Rattle.std.proofs.Common.{rules}
use Rattle.inlining.proofs.moved.moved_argument.Goals as goal

pub returns : goal.returns
returns c = search rules
