use Rattle.std.proofs.Common.{rules}
use Rattle.promote.proofs.rewriting.promoted.Goals as goal

pub returns : goal.returns
returns c = search rules
