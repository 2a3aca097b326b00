use Rattle.std.proofs.Common.{rules}
use Rattle.operation_code.proofs.immediate.compares_with.Goals as goal

pub returns-in-SignedLessEqual : goal.returns-in-SignedLessEqual
returns-in-SignedLessEqual c = search rules
