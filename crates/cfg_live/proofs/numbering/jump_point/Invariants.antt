use Rattle.std.proofs.Common.{◌≡◌, drop}
use Rattle.cfg_live.specs.Numbering.{jump_point}
use Rattle.cfg_live.proofs.numbering.jump_point.Given as goal

abbrev pub invariant-loop-line : goal.invariant-loop-line
invariant-loop-line l = jump_point l.point (drop l.line-index l.lines) ≡ jump_point l.fn.first l.fn.lines
