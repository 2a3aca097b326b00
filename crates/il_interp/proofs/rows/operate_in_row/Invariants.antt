use Rattle.obj_link.specs.Prelude.{program}
use Rattle.il_interp.specs.Rows.{GoesOn, held}
use Rattle.il_interp.proofs.rows.operate_in_row.Given as goal

abbrev pub invariant-loop-at : goal.invariant-loop-at
invariant-loop-at l =
    GoesOn (program l.linked) l.text l.insts (held l.initial.temps l.initial.memory) l.next (held l.temps l.memory) l.at
