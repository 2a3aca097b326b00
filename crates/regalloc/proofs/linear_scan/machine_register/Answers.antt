use Rattle.std.proofs.Common.{rules}
use Rattle.regalloc.proofs.linear_scan.machine_register.Goals as goal

pub returns-then-k-lt13 : goal.returns-then-k-lt13
returns-then-k-lt13 c = search rules
