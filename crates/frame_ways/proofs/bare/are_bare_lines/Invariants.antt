use Rattle.std.proofs.Common.{◌≡◌, drop}
use Rattle.std.specs.List.{list_all}
use Rattle.frame_ways.specs.Plans.{is_bare_line}
use Rattle.frame_ways.proofs.bare.are_bare_lines.Given as goal

abbrev pub invariant-loop-line : goal.invariant-loop-line
invariant-loop-line l = list_all is_bare_line (drop l.line-index l.lines) ≡ list_all is_bare_line l.fn.lines
