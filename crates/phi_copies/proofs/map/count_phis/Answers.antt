use Rattle.std.proofs.Common.{length, ap, arith}
use Rattle.std.proofs.lemmas.List.Sums.{sum_by-drop_more}
use Rattle.std.proofs.lemmas.Grind.{common_steps}
use Rattle.il_ast.specs.declared.block.Block.{Block}
use Rattle.phi_copies.proofs.Counting.{is_small}
use Rattle.phi_copies.proofs.map.count_phis.Goals as goal

pub overflow_add-number : goal.overflow_add-number
overflow_add-number c =
    let small = (is_small c.args.func.now c.requires).temporaries in
    let more = sum_by-drop_more (λ (b : Block). length b.phis) c.as_slice-block-items.result.now c.loop-block.block-index c.block-item.result c.loop-block-test.true in
    let here = ap (λ (b : Block). length b.phis) c.block-item.is in
    let all = c.loop-block.invariant.0 in
    let long = c.len-number-in-loop-block.ensures in
    omega (arith, small, more, here, all, long)

pub loop-block-preserved : goal.loop-block-preserved
loop-block-preserved c = grind (arith, common_steps)
