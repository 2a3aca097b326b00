use Rattle.std.proofs.Common.{ℕ, List, ap, arith, sum_by}
use Rattle.std.proofs.lemmas.List.Sums.{sum_by-drop_more}
use Rattle.vcode.specs.declared.line.Line.{Line}
use Rattle.block_layout.specs.Joined.{burden, block_burden}
use Rattle.block_layout.proofs.tails.weigh.are_light.Goals as goal

pub loop-block-preserved : goal.loop-block-preserved
loop-block-preserved c =
    let blocks = c.args.blocks.now in
    let next = sum_by-drop_more block_burden blocks c.loop-block.block-index c.block-item.result c.loop-block-test.true in
    let here = ap block_burden c.block-item.is in
    let same = ap (λ (lines : List (Line ℕ)). sum_by burden lines) c.as_slice.ensures in
    let part = c.in-Some.ensures in
    let before = c.loop-block.invariant in
    omega (arith, next, here, same, part, before)
