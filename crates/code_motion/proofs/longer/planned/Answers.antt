use Rattle.code_motion.proofs.Making.{copied}
use Rattle.code_motion.proofs.longer.planned.Goals as goal

pub returns-in-None : goal.returns-in-None
returns-in-None c = copied c.args.registers.before c.args.registers.after c.args.from.now c.copy.result c.copy.ensures
