use Rattle.std.proofs.Common.{◌≡◌, ◌-◌, ◌+◌, ℕ}
use Rattle.il_interp.specs.Machine.{program_of, machine}
use Rattle.il_interp.proofs.trace.go_on_watched.Given as goal

abbrev pub invariant-loop-done : goal.invariant-loop-done
invariant-loop-done l = (n : ℕ) → machine (program_of l.prepared) (l.turns - l._done + n) l.state ≡ machine (program_of l.prepared) (l.turns + n) l.initial.state
