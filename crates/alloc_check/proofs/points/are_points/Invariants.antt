use Rattle.std.proofs.Common.{◌≡◌, ◌≤◌, drop}
use Rattle.alloc_check.specs.Prelude.{end_point}
use Rattle.alloc_check.proofs.points.are_points.Given as goal

abbrev pub invariant-loop-block : goal.invariant-loop-block
invariant-loop-block l = record { points : end_point l.point (drop l.block-index l.blocks) ≡ end_point 0 l.fn.blocks; low : l.point ≤ l.count }
