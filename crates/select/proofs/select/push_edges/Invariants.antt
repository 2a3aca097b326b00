use Rattle.std.proofs.Common.{◌≡◌, ◌++◌, map, drop}
use Rattle.select.specs.Narrow.{listed, narrow_edge}
use Rattle.select.proofs.select.push_edges.Given as goal

abbrev pub invariant-loop-ending : goal.invariant-loop-ending
invariant-loop-ending l = l.made ++ map (narrow_edge (listed l.classes)) (drop l.ending-index l.edges) ≡ l.fn.made ++ map (narrow_edge (listed l.classes)) l.fn.edges
