use Rattle.std.proofs.Common.{rules}
use Rattle.cfg_live.proofs.flow.leave_out_written.Goals as goal

pub returns-in-Some-clause-members : goal.returns-in-Some-clause-members
returns-in-Some-clause-members c = search rules
