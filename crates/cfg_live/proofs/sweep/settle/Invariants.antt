use Rattle.std.proofs.Common.{◌≡◌, length}
use Rattle.cfg_live.specs.Rows.{Went}
use Rattle.cfg_live.proofs.Unset.{missing}
use Rattle.cfg_live.proofs.sweep.settle.Given as goal

abbrev pub invariant-loop : goal.invariant-loop
invariant-loop l =
    record { same_length : l.set.length ≡ l.fn.set.length; went : Went l.graph l.fn.set.length l.fn.rows l.rows }

abbrev pub decreases-loop : goal.decreases-loop
decreases-loop l = missing l.rows l.fn.set.length (length l.fn.rows)
