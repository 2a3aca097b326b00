use Rattle.std.proofs.Common.{◌≡◌, length}
use Rattle.cfg_live.specs.Rows.{AreBlank}
use Rattle.cfg_live.proofs.live.blank_rows.Given as goal

abbrev pub invariant-loop : goal.invariant-loop
invariant-loop l = record { as_many : length l.rows.items ≡ l.counter; blank : AreBlank l.registers l.rows.items }
