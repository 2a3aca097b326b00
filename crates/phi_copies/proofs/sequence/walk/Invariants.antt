use Rattle.phi_copies.specs.Order.{waiting_count}
use Rattle.phi_copies.proofs.Loops.{Walking}
use Rattle.phi_copies.proofs.sequence.walk.Given as goal

abbrev pub invariant-loop-visited : goal.invariant-loop-visited
invariant-loop-visited l = Walking l.moves l.fn.visited l.visited l.path.items l.next l.start

abbrev pub decreases-loop-visited : goal.decreases-loop-visited
decreases-loop-visited l = waiting_count l.visited
