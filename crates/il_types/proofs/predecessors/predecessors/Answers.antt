use Rattle.il_types.proofs.CoveringLemmas.{predecessors_on}
use Rattle.il_types.proofs.predecessors.predecessors.Goals as goal

pub loop-block-preserved : goal.loop-block-preserved
loop-block-preserved c = λ l. predecessors_on c.args.blocks.now c.loop-block.block-index c.block-item.result l c.number.result _ _ c.loop-block-test.true c.block-item.is c.number.ensures (c.loop-block.invariant l) (c.in_ok-add_jump.ensures l)
