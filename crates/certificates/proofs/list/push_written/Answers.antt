use Rattle.std.proofs.Common.{rules}
use Rattle.certificates.proofs.list.push_written.Goals as goal

pub returns-in-Some : goal.returns-in-Some
returns-in-Some c = search rules
