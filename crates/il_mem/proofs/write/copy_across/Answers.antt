use Rattle.std.proofs.Common.{◌∙◌, ap, length, take, drop, length-set}
use Rattle.il_mem.proofs.Spans.{span_at}
use Rattle.il_mem.proofs.Writing.{written_next}
use Rattle.il_mem.proofs.write.copy_across.Goals as goal

pub loop-k-preserved : goal.loop-k-preserved
loop-k-preserved c =
    let s = take c.args.count (drop c.args.from c.args.source.now) in (
      written_next c.args.to c.loop-k.k s c.loop-k.block c.set.new.self _ c.get-cell.result
          (span_at c.args.source.now c.args.from c.args.count c.loop-k.k c.get-cell.result c.loop-k-test.true c.get-cell.ensures)
          c.set.ensures c.loop-k.invariant.0,
      ap length c.set.ensures ∙ (length-set _ _ _ ∙ c.loop-k.invariant.1),
    )
