use Rattle.std.proofs.Common.{◌≡◌, drop}
use Rattle.scheduling.specs.Independent.{reordered}
use Rattle.scheduling.proofs.swaps.reorder.Given as goal

abbrev pub invariant-loop-at : goal.invariant-loop-at
invariant-loop-at l = reordered (drop l.at-index l.swaps) l.lines ≡ reordered l.fn.swaps l.fn.lines
