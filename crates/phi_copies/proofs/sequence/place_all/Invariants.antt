use Rattle.phi_copies.specs.Order.{Sequencing}
use Rattle.phi_copies.proofs.sequence.place_all.Given as goal

abbrev pub invariant-loop-start : goal.invariant-loop-start
invariant-loop-start l = Sequencing l.moves l.scratch l.visited l.placed l.path.items l.out.items l.start
