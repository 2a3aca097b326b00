use Rattle.std.proofs.Common.{ℕ, nat_cmp}
use Rattle.std.specs.BTreeMap.{get}
use Rattle.phi_copies.specs.Order.{IsWritten}
use Rattle.phi_copies.proofs.sequence.writers.Given as goal

abbrev pub invariant-loop-i : goal.invariant-loop-i
invariant-loop-i l = (place : ℕ) → IsWritten l.moves place l.i (get nat_cmp l.writers place)
