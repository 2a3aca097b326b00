use Rattle.std.proofs.Common.{length, ap, arith}
use Rattle.std.proofs.lemmas.List.Sums.{sum_by-drop_more}
use Rattle.il_ast.specs.declared.block.Block.{Block}
use Rattle.select.proofs.select.count_registers.Goals as goal

pub overflow_add-number : goal.overflow_add-number
overflow_add-number c =
    let small = c.requires in
    let more = sum_by-drop_more (λ (b : Block). length b.phis) c.as_slice-block-items.result.now c.loop-block.block-index c.block-item.result c.loop-block-test.true in
    let here = ap (λ (b : Block). length b.phis) c.block-item.is in
    let all = c.loop-block.invariant in
    let long = c.len-number-in-loop-block.ensures in
    omega (arith, small, more, here, all, long)
