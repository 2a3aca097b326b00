use Rattle.std.proofs.Common.{ℕ, List, ◌++◌, drop}
use Rattle.vcode.specs.declared.code.Block.{Block}
use Rattle.block_layout.specs.Joined.{AllLonger}
use Rattle.block_layout.proofs.tails.copy.all_longer.Given as goal

abbrev pub invariant-loop-number : goal.invariant-loop-number
invariant-loop-number l = (rest : List (Block ℕ)) → AllLonger l.blocks (drop l.number l.blocks) rest → AllLonger l.blocks l.blocks (l.made.items ++ rest)
