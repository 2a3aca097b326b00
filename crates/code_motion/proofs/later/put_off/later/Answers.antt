use Rattle.std.proofs.Common.{rules}
use Rattle.code_motion.proofs.MakingLater.{copied_later}
use Rattle.code_motion.proofs.later.put_off.later.Goals as goal

pub returns-else-is_paid : goal.returns-else-is_paid
returns-else-is_paid c = copied_later c.args.from.now c.copy.result c.copy.ensures

pub returns-then-is_paid : goal.returns-then-is_paid
returns-then-is_paid c = search rules
