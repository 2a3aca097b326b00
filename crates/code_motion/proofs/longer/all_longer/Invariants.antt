use Rattle.std.proofs.Common.{ℕ, List, ◌++◌, drop}
use Rattle.vcode.specs.declared.code.Block.{Block}
use Rattle.code_motion.specs.Longer.{AllLonger}
use Rattle.code_motion.proofs.longer.all_longer.Given as goal

abbrev pub invariant-loop-number : goal.invariant-loop-number
invariant-loop-number l =
    (rest : List (Block ℕ)) → AllLonger l.registers.before l.registers.after (drop l.number l.from) rest → AllLonger l.registers.before l.registers.after l.from (l.made.items ++ rest)
