use Rattle.std.proofs.Common.{◌≡◌, ◌<◌, ℕ, false}
use Rattle.cfg_live.specs.Rows.{Went, Changed, Stable}
use Rattle.cfg_live.proofs.sweep.sweep.Given as goal

abbrev pub invariant-loop-point : goal.invariant-loop-point
invariant-loop-point l =
    record {
      same_length : l.set.length ≡ l.fn.set.length;
      went : Went l.graph l.fn.set.length l.fn.rows l.rows;
      changed : Changed l.fn.set.length l.fn.rows l.rows l.changed;
      stable : l.changed ≡ false → (p : ℕ) → p < l.point → Stable l.graph l.fn.set.length l.rows p;
    }
