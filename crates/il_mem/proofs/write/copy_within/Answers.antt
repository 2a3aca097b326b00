use Rattle.std.proofs.Common.{◌∙◌, sym, ap, ◌+◌, length, take, drop, arith, slice_get, length-set}
use Rattle.il_mem.proofs.Spans.{span_at}
use Rattle.il_mem.proofs.Writing.{written_next}
use Rattle.il_mem.proofs.write.copy_within.Goals as goal
use Rattle.il_ast.proofs.Listed.{get_set_apart}

pub loop-k-preserved : goal.loop-k-preserved
loop-k-preserved c =
    let old = c.args.block.now in
    let s = take c.args.count (drop c.args.from old) in
    let stays = c.loop-k.invariant.2 (c.args.from + c.loop-k.k) (omega arith) (omega arith) in (
      written_next c.args.to c.loop-k.k s c.loop-k.block c.set.new.self _ c.get-cell.result
          (span_at old c.args.from c.args.count c.loop-k.k c.get-cell.result c.loop-k-test.true (sym stays ∙ c.get-cell.ensures))
          c.set.ensures c.loop-k.invariant.0,
      ap length c.set.ensures ∙ (length-set _ _ _ ∙ c.loop-k.invariant.1),
      (λ j low high.
          ap (λ cells. slice_get cells j) c.set.ensures
          ∙ (get_set_apart c.loop-k.block (c.args.to + c.loop-k.k) j _ (omega (arith, c.requires.apart)) ∙ c.loop-k.invariant.2 j low high)),
    )
