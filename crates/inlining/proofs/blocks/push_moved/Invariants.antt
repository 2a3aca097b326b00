use Rattle.std.proofs.Common.{◌≡◌, ◌++◌, map, drop}
use Rattle.inlining.specs.InPlace.{moved_line}
use Rattle.inlining.proofs.blocks.push_moved.Given as goal

abbrev pub invariant-loop-line : goal.invariant-loop-line
invariant-loop-line l = l.lines.items ++ map (moved_line l.base) (drop l.line-index l.from) ≡ l.fn.lines.items ++ map (moved_line l.fn.base) l.fn.from
