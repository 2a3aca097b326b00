use Rattle.std.proofs.Common.{◌≡◌, ◌++◌, drop}
use Rattle.constant_placement.specs.Held.{with_blocks}
use Rattle.constant_placement.proofs.hoisting.replace.with_blocks.Given as goal

abbrev pub invariant-loop-number : goal.invariant-loop-number
invariant-loop-number l = l.made.items ++ with_blocks l.plan l.number (drop l.number l.blocks) ≡ with_blocks l.plan 0 l.fn.blocks
