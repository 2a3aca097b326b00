use Rattle.std.proofs.Common.{◌≡◌, ◌+◌, drop}
use Rattle.phi_copies.specs.Together.{first_in}
use Rattle.phi_copies.proofs.together.first_in.Given as goal

abbrev pub invariant-loop-copy : goal.invariant-loop-copy
invariant-loop-copy l = (l.number ≡ l.fn.number + l.copy-index) × (first_in l.class l.number (drop l.copy-index l.copies) ≡ first_in l.class l.fn.number l.copies)
