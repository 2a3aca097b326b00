use Rattle.std.proofs.Common.{◌≡◌, ◌≤◌, drop}
use Rattle.alloc_check.specs.Prelude.{jump_point}
use Rattle.alloc_check.proofs.points.lines_within.Given as goal

abbrev pub invariant-loop-line : goal.invariant-loop-line
invariant-loop-line l = record { points : jump_point l.point (drop l.line-index l.lines) ≡ jump_point l.fn.first l.fn.lines; low : l.point ≤ l.limit }
