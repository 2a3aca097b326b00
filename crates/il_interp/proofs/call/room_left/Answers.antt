use Rattle.std.proofs.Common.{rules}
use Rattle.il_interp.proofs.call.room_left.Goals as goal

pub returns-then-need-from : goal.returns-then-need-from
returns-then-need-from c = search rules
