use Rattle.std.proofs.Common.{◌≡◌, ◌++◌, drop}
use Rattle.phi_copies.specs.Together.{moves_in}
use Rattle.phi_copies.proofs.together.moves_in.Given as goal

abbrev pub invariant-loop-copy : goal.invariant-loop-copy
invariant-loop-copy l = l.moves.items ++ moves_in l.class (drop l.copy-index l.copies) ≡ moves_in l.class l.copies
