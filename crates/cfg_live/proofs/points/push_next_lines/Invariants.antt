use Rattle.std.proofs.Common.{◌≡◌, drop}
use Rattle.cfg_live.specs.Rows.{next_lines}
use Rattle.cfg_live.proofs.points.push_next_lines.Given as goal

abbrev pub invariant-loop-line : goal.invariant-loop-line
invariant-loop-line l = next_lines l.nexts.items (drop l.line-index l.lines) ≡ next_lines l.fn.nexts.items l.fn.lines
