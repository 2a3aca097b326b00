use Rattle.std.proofs.Common.{rules}
use Rattle.code_motion.proofs.longer.is_extra.Goals as goal

pub returns-then-is_low : goal.returns-then-is_low
returns-then-is_low c = search rules
