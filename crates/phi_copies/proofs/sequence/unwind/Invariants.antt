use Rattle.phi_copies.proofs.Loops.{Unwinding}
use Rattle.phi_copies.proofs.sequence.unwind.Given as goal

abbrev pub invariant-loop-i : goal.invariant-loop-i
invariant-loop-i l = Unwinding l.moves l.fn.placed l.fn.path.items l.fn.out.items l.placed l.path.items l.out.items

abbrev pub decreases-loop-i : goal.decreases-loop-i
decreases-loop-i l = goal.left-loop-i l
