use Rattle.std.proofs.Common.{arith, ◌≡◌, ap}
use Rattle.alloc_check.specs.Prelude.{jump_point, end_point}
use Rattle.cfg_live.proofs.Counting.{block_fits}
use Rattle.std.proofs.lemmas.Grind.{common_steps}
use Rattle.alloc_check.proofs.certified.push_blocks.Goals as goal

pub certified_block-requires : goal.certified_block-requires
certified_block-requires c =
    let low = block_fits c.args.blocks.now c.loop-block.block-index c.loop-block.first (end_point 0 c.args.blocks.now) c.block-item.result c.loop-block-test.true c.block-item.is c.loop-block.invariant.points in
    omega (arith, c.requires)

pub jump_point-first-requires : goal.jump_point-first-requires
jump_point-first-requires c =
    let b = c.block-item.result in
    let low = block_fits c.args.blocks.now c.loop-block.block-index c.loop-block.first (end_point 0 c.args.blocks.now) b c.loop-block-test.true c.block-item.is c.loop-block.invariant.points in
    let same : jump_point c.loop-block.first c.as_slice.result.now ≡ jump_point c.loop-block.first b.lines = ap (jump_point c.loop-block.first) c.as_slice.ensures in
    omega (arith, c.requires)

pub overflow_add-first : goal.overflow_add-first
overflow_add-first c =
    let b = c.block-item.result in
    let low = block_fits c.args.blocks.now c.loop-block.block-index c.loop-block.first (end_point 0 c.args.blocks.now) b c.loop-block-test.true c.block-item.is c.loop-block.invariant.points in
    let same : jump_point c.loop-block.first c.as_slice.result.now ≡ jump_point c.loop-block.first b.lines = ap (jump_point c.loop-block.first) c.as_slice.ensures in
    grind (arith, c.requires, c.jump_point-first.ensures)

pub loop-block-preserved : goal.loop-block-preserved
loop-block-preserved c = grind (arith, common_steps)
