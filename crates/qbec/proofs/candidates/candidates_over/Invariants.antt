use Rattle.obj_link.specs.Prelude.{program}
use Rattle.qbec.proofs.Placing.{TablesSoFar}
use Rattle.qbec.proofs.candidates.candidates_over.Given as goal

abbrev pub invariant-loop-text : goal.invariant-loop-text
invariant-loop-text l = TablesSoFar (program l.fn.linked) l.tables.items l.text
