use Rattle.std.proofs.Common.{ℕ, List, ◌++◌, drop}
use Rattle.vcode.specs.declared.code.Block.{Block}
use Rattle.constant_placement.specs.Known.{AllSunk}
use Rattle.constant_placement.proofs.sinking.with_sets.all_sunk.Given as goal

abbrev pub invariant-loop-number : goal.invariant-loop-number
invariant-loop-number l =
    (rest : List (Block ℕ)) → AllSunk l.registers l.plans l.number (drop l.number l.from) rest → AllSunk l.registers l.plans 0 l.fn.from (l.made.items ++ rest)
