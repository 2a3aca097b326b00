use Rattle.std.proofs.Common.{drop}
use Rattle.code_motion.specs.Later.{Makes}
use Rattle.code_motion.proofs.later.put_off.later_lines.Given as goal

abbrev pub invariant-loop-number : goal.invariant-loop-number
invariant-loop-number l = Makes l.from l.made.items l.put_off.waiting (drop l.number l.from)
