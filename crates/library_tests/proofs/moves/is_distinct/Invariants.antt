use Rattle.std.proofs.Common.{◌≢◌, ℕ, ◌<◌, length, get_or}
use Rattle.phi_copies.specs.declared.moves.Move.{Move}
use Rattle.library_tests.proofs.moves.is_distinct.Given as goal

abbrev pub invariant-loop-i : goal.invariant-loop-i
invariant-loop-i l = (a b : ℕ) (d : Move) → a < l.i → a < b → b < length l.moves → (get_or l.moves a d).to ≢ (get_or l.moves b d).to
