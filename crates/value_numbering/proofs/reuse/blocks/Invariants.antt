use Rattle.std.proofs.Common.{ℕ, List, ◌++◌, drop}
use Rattle.vcode.specs.declared.code.Block.{Block}
use Rattle.value_numbering.specs.Reused.{AllReused}
use Rattle.value_numbering.proofs.reuse.blocks.Given as goal

abbrev pub invariant-loop-number : goal.invariant-loop-number
invariant-loop-number l =
    (rest : List (Block ℕ)) → AllReused l.registers l.marks l.claims l.number (drop l.number l.from) rest → AllReused l.registers l.marks l.claims 0 l.fn.from (l.made.items ++ rest)
