use Rattle.std.proofs.Common.{◌≡◌, ℕ, drop, ◌||◌}
use Rattle.bitset.specs.Bits.{is_member}
use Rattle.cfg_live.specs.Rows.{any_holds}
use Rattle.cfg_live.proofs.flow.join_points.Given as goal

abbrev pub invariant-loop-point : goal.invariant-loop-point
invariant-loop-point l =
    (l.set.length ≡ l.fn.set.length)
    × ((r : ℕ)
    → (is_member l.set r || any_holds l.rows r (drop l.point-index l.points)) ≡ (is_member l.fn.set r || any_holds l.fn.rows r l.fn.points))
