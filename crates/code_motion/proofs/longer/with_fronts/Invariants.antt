use Rattle.std.proofs.Common.{ℕ, List, ◌++◌, drop}
use Rattle.vcode.specs.declared.line.Line.{Line}
use Rattle.code_motion.specs.Longer.{AreLonger}
use Rattle.code_motion.proofs.longer.with_fronts.Given as goal

abbrev pub invariant-loop-number : goal.invariant-loop-number
invariant-loop-number l =
    (rest : List (Line ℕ)) → AreLonger l.registers.before l.registers.after (drop l.number l.from) rest → AreLonger l.registers.before l.registers.after l.from (l.lines.items ++ rest)
