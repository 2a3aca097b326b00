use Rattle.std.proofs.Common.{◌≡◌, ◌++◌, drop}
use Rattle.phi_copies.specs.Together.{rest_of}
use Rattle.phi_copies.proofs.together.push_rest.Given as goal

abbrev pub invariant-loop-copy : goal.invariant-loop-copy
invariant-loop-copy l = l.out.items ++ rest_of (drop l.copy-index l.copies) ≡ l.fn.out.items ++ rest_of l.copies
