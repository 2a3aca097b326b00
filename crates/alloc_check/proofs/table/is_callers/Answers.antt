use Rattle.std.proofs.Common.{rules}
use Rattle.alloc_check.proofs.table.is_callers.Goals as goal

pub returns-else-is_between-2 : goal.returns-else-is_between-2
returns-else-is_between-2 c = search rules
