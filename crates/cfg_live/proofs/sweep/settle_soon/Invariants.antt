use Rattle.std.proofs.Common.{◌≡◌}
use Rattle.cfg_live.specs.Rows.{Went}
use Rattle.cfg_live.proofs.sweep.settle_soon.Given as goal

abbrev pub invariant-loop : goal.invariant-loop
invariant-loop l = record { same_length : l.set.length ≡ l.fn.set.length; went : Went l.graph l.fn.set.length l.fn.rows l.rows }
