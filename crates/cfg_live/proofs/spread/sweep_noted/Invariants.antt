use Rattle.std.proofs.Common.{◌≡◌}
use Rattle.cfg_live.specs.Rows.{Went}
use Rattle.cfg_live.proofs.spread.sweep_noted.Given as goal

abbrev pub invariant-loop-point : goal.invariant-loop-point
invariant-loop-point l =
    record { same_length : l.set.length ≡ l.fn.set.length; went : Went l.graph l.fn.set.length l.fn.rows l.rows }
