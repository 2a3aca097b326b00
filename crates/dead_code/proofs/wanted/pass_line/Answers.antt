use Rattle.std.proofs.Common.{rules}
use Rattle.dead_code.proofs.wanted.pass_line.Goals as goal

pub returns-clause-wanted : goal.returns-clause-wanted
returns-clause-wanted c = search rules
