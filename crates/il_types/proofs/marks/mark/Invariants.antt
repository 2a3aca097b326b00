use Rattle.std.proofs.Common.{◌≡◌, ℕ, ◌+◌, ◌-◌, length}
use Rattle.il_types.specs.Prelude.{marked}
use Rattle.il_types.proofs.marks.mark.Given as goal

abbrev pub invariant-loop-marks : goal.invariant-loop-marks
invariant-loop-marks l = (t : ℕ) → marked l.marks.items t ≡ marked l.fn.marks.items t

abbrev pub decreases-loop-marks : goal.decreases-loop-marks
decreases-loop-marks l = l.number + 1 - length l.marks.items
