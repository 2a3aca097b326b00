use Rattle.std.proofs.Common.{ℕ, List, ◌++◌, drop}
use Rattle.vcode.specs.declared.code.Block.{Block}
use Rattle.code_motion.specs.Later.{AllLater}
use Rattle.code_motion.proofs.later.put_off.all_later.Given as goal

abbrev pub invariant-loop-block : goal.invariant-loop-block
invariant-loop-block l = (rest : List (Block ℕ)) → AllLater (drop l.block-index l.from) rest → AllLater l.from (l.made.items ++ rest)
