use Rattle.std.proofs.Common.{◌≡◌, ◌++◌, map, drop}
use Rattle.phi_copies.specs.Together.{copy_of}
use Rattle.phi_copies.proofs.together.push_moves.Given as goal

abbrev pub invariant-loop-m : goal.invariant-loop-m
invariant-loop-m l = l.out.items ++ map (copy_of l.class) (drop l.m-index l.moves) ≡ l.fn.out.items ++ map (copy_of l.class) l.moves
