use Rattle.std.proofs.Common.{◌≡◌, ◌<◌, ◌≤◌, ℕ, true, length}
use Rattle.cfg_live.specs.Rows.{Went, Stable, goes_on}
use Rattle.cfg_live.proofs.sweep.sweep_back.Given as goal

abbrev pub invariant-loop-point : goal.invariant-loop-point
invariant-loop-point l =
    record {
      same_length : l.set.length ≡ l.fn.set.length;
      went : Went l.graph l.fn.set.length l.fn.rows l.rows;
      stable : (p : ℕ) → l.point ≤ p → p < length l.fn.rows → goes_on l.graph p ≡ true → Stable l.graph l.fn.set.length l.rows p;
    }
