use Rattle.std.proofs.Common.{◌≡◌, ◌<◌, ℕ, false}
use Rattle.cfg_live.specs.Rows.{Went, SameMarks, Stable, goes_on}
use Rattle.cfg_live.proofs.sweep.latches_stand.Given as goal

abbrev pub invariant-loop-point : goal.invariant-loop-point
invariant-loop-point l =
    record {
      same_length : l.set.length ≡ l.fn.set.length;
      went : Went l.graph l.fn.set.length l.fn.rows l.rows;
      same : SameMarks l.fn.rows l.rows;
      stable : (p : ℕ) → p < l.point → goes_on l.graph p ≡ false → Stable l.graph l.fn.set.length l.rows p;
    }
