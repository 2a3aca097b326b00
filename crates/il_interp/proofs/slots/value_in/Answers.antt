use Rattle.std.proofs.Common.{rules}
use Rattle.il_interp.proofs.slots.value_in.Goals as goal

pub returns-in-Unassigned : goal.returns-in-Unassigned
returns-in-Unassigned c = search rules
