use Rattle.std.proofs.Common.{◌≡◌, ◌++◌, map, drop}
use Rattle.certificates.specs.Listed.{no_moves}
use Rattle.certificates.proofs.list.push_moves.Given as goal

abbrev pub invariant-loop-uses : goal.invariant-loop-uses
invariant-loop-uses l = l.moves ++ map no_moves (drop l._uses-index l.points) ≡ l.fn.moves ++ map no_moves l.fn.points
