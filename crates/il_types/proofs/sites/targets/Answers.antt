use Rattle.il_types.specs.Prelude.{block_targets}
use Rattle.il_types.proofs.OneMore.{flat_on}
use Rattle.il_types.proofs.sites.targets.Goals as goal

pub loop-block-preserved : goal.loop-block-preserved
loop-block-preserved c = flat_on block_targets c.as_slice-blocks.result.now c.loop-block.block-index c.block-item.result c.loop-block.found.items c.collect_targets.new.found.items c.loop-block-test.true c.block-item.is c.loop-block.invariant c.in_ok-collect_targets.ensures
