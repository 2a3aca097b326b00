use Rattle.std.proofs.Common.{arith, sym, ◌∙◌, ◌+◌}
use Rattle.alloc_check.specs.Prelude.{jump_point, end_point}
use Rattle.std.proofs.lemmas.Grind.{common_steps}
use Rattle.alloc_check.proofs.Counted.{beyond, none_there}
use Rattle.cfg_live.proofs.Counting.{block_fits}
use Rattle.alloc_check.proofs.points.are_points.Goals as goal

pub returns-in-None : goal.returns-in-None
returns-in-None c =
    let end = end_point 0 c.args.blocks.now in
    let b = c.block-item.result in
    let other = none_there c.args.count end
    (beyond c.args.count (jump_point c.loop-block.point b.lines + 1) end (sym c.block_within.ensures ∙ c.in-None.is)
    (block_fits c.args.blocks.now c.loop-block.block-index c.loop-block.point end b c.loop-block-test.true c.block-item.is c.loop-block.invariant.points)) in
    record { count = sym other; few = λ e. cc }

pub loop-block-preserved : goal.loop-block-preserved
loop-block-preserved c = grind (arith, common_steps)
