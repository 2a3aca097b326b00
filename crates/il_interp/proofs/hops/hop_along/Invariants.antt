use Rattle.std.proofs.Common.{◌≡◌, ◌-◌, ◌≤◌}
use Rattle.il_interp.specs.Machine.{program_of}
use Rattle.il_interp.specs.Hops.{GoesAlong}
use Rattle.il_interp.proofs.hops.hop_along.Given as goal

abbrev pub invariant-loop-left : goal.invariant-loop-left
invariant-loop-left l =
    (l.left ≤ l.most) × (l.frame.function ≡ l.fn.frame.function) × GoesAlong (program_of l.prepared) l.fn.frame l.fn.memory (l.most - l.left) l.frame l.memory

abbrev pub decreases-loop-left : goal.decreases-loop-left
decreases-loop-left l = l.left
