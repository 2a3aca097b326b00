use Rattle.std.proofs.Common.{rules}
use Rattle.alloc_check.proofs.check.targets.Goals as goal

pub returns-then-all_hold : goal.returns-then-all_hold
returns-then-all_hold c = search rules
