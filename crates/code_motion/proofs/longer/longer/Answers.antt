use Rattle.std.proofs.Common.{rules}
use Rattle.code_motion.proofs.Making.{copied}
use Rattle.code_motion.proofs.longer.longer.Goals as goal

pub returns-else-is_paid : goal.returns-else-is_paid
returns-else-is_paid c = copied c.args.registers.before c.args.registers.after c.args.from.now c.copy.result c.copy.ensures

pub returns-then-is_paid : goal.returns-then-is_paid
returns-then-is_paid c = search rules
