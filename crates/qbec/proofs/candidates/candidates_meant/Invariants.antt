use Rattle.obj_link.specs.Prelude.{program}
use Rattle.qbec.proofs.Placing.{CandidatesSoFar}
use Rattle.qbec.proofs.candidates.candidates_meant.Given as goal

abbrev pub invariant-loop-target : goal.invariant-loop-target
invariant-loop-target l = CandidatesSoFar (program l.fn.linked) l.text l.targets l.candidates.items l.target-index
