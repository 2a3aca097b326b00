use Rattle.std.proofs.Common.{◌≡◌, ◌++◌, map, drop}
use Rattle.certificates.specs.Listed.{point_places}
use Rattle.certificates.proofs.list.push_places.Given as goal

abbrev pub invariant-loop-uses : goal.invariant-loop-uses
invariant-loop-uses l = l.places ++ map (point_places l.list) (drop l.uses-index l.points) ≡ l.fn.places ++ map (point_places l.list) l.fn.points
