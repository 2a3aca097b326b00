use Rattle.std.proofs.Common.{◌≡◌, drop}
use Rattle.cfg_live.specs.Rows.{with_lines}
use Rattle.cfg_live.proofs.points.push_lines.Given as goal

abbrev pub invariant-loop-line : goal.invariant-loop-line
invariant-loop-line l = with_lines l.uses.items (drop l.line-index l.lines) ≡ with_lines l.fn.uses.items l.fn.lines
