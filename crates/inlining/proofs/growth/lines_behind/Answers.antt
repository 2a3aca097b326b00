use Rattle.std.proofs.Common.{ap, arith, sum_by}
use Rattle.std.proofs.lemmas.List.{at_drop_all}
use Rattle.std.proofs.lemmas.List.Sums.{sum_by-drop_more}
use Rattle.inlining.specs.Growth.{line_count}
use Rattle.inlining.proofs.growth.lines_behind.Goals as goal

pub loop-block-preserved : goal.loop-block-preserved
loop-block-preserved c =
    let blocks = c.args.blocks.now in
    let next = sum_by-drop_more line_count blocks c.loop-block.block-index c.block-item.result c.loop-block-test.true in
    let here = ap line_count c.block-item.is in
    let before = c.loop-block.invariant in
    omega (arith, next, here, before)

pub returns : goal.returns
returns c =
    let none = at_drop_all (sum_by line_count) c.args.blocks.now c.loop-block.block-index c.loop-block-test.false in
    let before = c.loop-block.invariant in
    omega (arith, none, before)
