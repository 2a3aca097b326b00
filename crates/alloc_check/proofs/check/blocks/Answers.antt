use Rattle.std.proofs.Common.{arith, ◌≡◌, ap}
use Rattle.alloc_check.specs.Prelude.{jump_point, end_point}
use Rattle.cfg_live.proofs.Counting.{block_fits}
use Rattle.std.proofs.lemmas.Grind.{common_steps}
use Rattle.alloc_check.proofs.check.blocks.Goals as goal

pub block-requires-clause-room : goal.block-requires-clause-room
block-requires-clause-room c =
    let low = block_fits c.args.blocks.now c.loop-index.index c.loop-index.first (end_point 0 c.args.blocks.now) c.index-blocks-index.result c.loop-index-test.true c.index-blocks-index.is c.loop-index.invariant.points in
    omega (arith, c.requires.room)

pub jump_point-first-requires : goal.jump_point-first-requires
jump_point-first-requires c =
    let b = c.index-blocks-index.result in
    let low = block_fits c.args.blocks.now c.loop-index.index c.loop-index.first (end_point 0 c.args.blocks.now) b c.loop-index-test.true c.index-blocks-index.is c.loop-index.invariant.points in
    let same : jump_point c.loop-index.first c.as_slice.result.now ≡ jump_point c.loop-index.first b.lines = ap (jump_point c.loop-index.first) c.as_slice.ensures in
    omega (arith, c.requires.room)

pub overflow_add-first : goal.overflow_add-first
overflow_add-first c =
    let b = c.index-blocks-index.result in
    let low = block_fits c.args.blocks.now c.loop-index.index c.loop-index.first (end_point 0 c.args.blocks.now) b c.loop-index-test.true c.index-blocks-index.is c.loop-index.invariant.points in
    let same : jump_point c.loop-index.first c.as_slice.result.now ≡ jump_point c.loop-index.first b.lines = ap (jump_point c.loop-index.first) c.as_slice.ensures in
    grind (arith, c.requires.room, c.jump_point-first.ensures)

pub loop-index-preserved : goal.loop-index-preserved
loop-index-preserved c = grind (arith, common_steps)
