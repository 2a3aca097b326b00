use Rattle.std.proofs.Common.{◌≡◌, ◌++◌, drop}
use Rattle.scheduling.specs.Independent.{scheduled_blocks}
use Rattle.scheduling.proofs.swaps.push_scheduled.Given as goal

abbrev pub invariant-loop-number : goal.invariant-loop-number
invariant-loop-number l = l.made ++ scheduled_blocks l.plan l.number (drop l.number l.blocks) ≡ l.fn.made ++ scheduled_blocks l.fn.plan 0 l.fn.blocks
