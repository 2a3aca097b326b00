use Rattle.std.proofs.Common.{◌≡◌, ◌+◌, ℕ}
use Rattle.il_interp.specs.Machine.{program_of, machine}
use Rattle.il_interp.proofs.run.go_on.Given as goal

abbrev pub invariant-loop-left : goal.invariant-loop-left
invariant-loop-left l = (n : ℕ) → machine (program_of l.prepared) (l.left + n) l.state ≡ machine (program_of l.prepared) (l.turns + n) l.initial.state

abbrev pub decreases-loop-left : goal.decreases-loop-left
decreases-loop-left l = l.left
