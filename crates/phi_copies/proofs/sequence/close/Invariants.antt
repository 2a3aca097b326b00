use Rattle.phi_copies.proofs.Loops.{Closing}
use Rattle.phi_copies.proofs.sequence.close.Given as goal

abbrev pub invariant-loop-i : goal.invariant-loop-i
invariant-loop-i l = Closing l.moves l.scratch l.first l.last l.fn.placed l.fn.path.items l.placed l.path.items l.out.items

abbrev pub decreases-loop-i : goal.decreases-loop-i
decreases-loop-i l = goal.left-loop-i l
