use Rattle.std.proofs.Common.{◌<◌, arith, length, get_or}
use Rattle.obj_link.specs.Prelude.{program}
use Rattle.il_interp.specs.Rows.{held}
use Rattle.il_interp.proofs.RowLemmas.{one_further}
use Rattle.il_interp.proofs.rows.operate_in_row.Goals.{then-most-count, else-most-count}
use Rattle.il_interp.proofs.rows.operate_in_row.Goals as goal
use Rattle.std.proofs.lemmas.Option.{slice_get-get_or}

pub loop-at-preserved : goal.loop-at-preserved
loop-at-preserved c =
    let inside : c.loop-at.at < length c.args.insts.now =
    elim c.if-most-count.branch [
      | then-most-count w ↦ omega (arith, c.loop-at-test.true, w.end-is, w.if-most-count.true, c.if-next-count.false)
      | else-most-count w ↦ omega (arith, c.loop-at-test.true, w.end-is)
    ] in
    one_further (program c.args.linked.now) c.args.text c.args.insts.now (held c.args.temps.now c.args.memory.now) (held c.loop-at.temps c.loop-at.memory)
    (held c.instruction.new.temps c.instruction.new.memory) c.args.next c.loop-at.at
    (get_or c.args.insts.now c.loop-at.at c.index-insts-at.result) c.loop-at.auto.at
    (slice_get-get_or c.args.insts.now c.loop-at.at c.index-insts-at.result inside) c.in-Some.ensures c.loop-at.invariant
