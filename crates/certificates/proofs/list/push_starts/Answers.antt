use Rattle.std.proofs.Common.{arith, ◌≡◌, ap}
use Rattle.certificates.specs.Listed.{jump_point, end_point}
use Rattle.cfg_live.proofs.Counting.{block_fits}
use Rattle.std.proofs.lemmas.Grind.{common_steps}
use Rattle.certificates.proofs.list.push_starts.Goals as goal

pub jump_point-point-requires : goal.jump_point-point-requires
jump_point-point-requires c =
    let b = c.block-item.result in
    let low = block_fits c.args.blocks.now c.loop-block.block-index c.loop-block.point (end_point 0 c.args.blocks.now) b c.loop-block-test.true c.block-item.is c.loop-block.invariant.points in
    let same : jump_point c.loop-block.point c.as_slice.result.now ≡ jump_point c.loop-block.point b.lines = ap (jump_point c.loop-block.point) c.as_slice.ensures in
    omega (arith, c.requires)

pub overflow_add-point : goal.overflow_add-point
overflow_add-point c =
    let b = c.block-item.result in
    let low = block_fits c.args.blocks.now c.loop-block.block-index c.loop-block.point (end_point 0 c.args.blocks.now) b c.loop-block-test.true c.block-item.is c.loop-block.invariant.points in
    let same : jump_point c.loop-block.point c.as_slice.result.now ≡ jump_point c.loop-block.point b.lines = ap (jump_point c.loop-block.point) c.as_slice.ensures in
    grind (arith, c.requires, c.jump_point-point.ensures)

pub loop-block-preserved : goal.loop-block-preserved
loop-block-preserved c = grind (arith, common_steps)
