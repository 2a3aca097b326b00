use Rattle.std.proofs.Common.{◌≡◌, ◌++◌, drop}
use Rattle.alloc_check.specs.Prelude.{transfers}
use Rattle.alloc_check.proofs.certified.push_moves.Given as goal

abbrev pub invariant-loop-m : goal.invariant-loop-m
invariant-loop-m l = l.placed ++ transfers (drop l.m-index l.moves) ≡ l.fn.placed ++ transfers l.fn.moves
