use Rattle.std.proofs.Common.{◌∙◌, sym}
use Rattle.il_types.specs.Prelude.{uncovered_by}
use Rattle.il_types.proofs.OneMore.{first_on}
use Rattle.il_types.proofs.phis.uncovered_in.Goals as goal

pub loop-block-preserved : goal.loop-block-preserved
loop-block-preserved c = (
  first_on (uncovered_by c.args.rows.now) c.args.blocks.now c.loop-block.block-index c.block-item.result _ c.loop-block-test.true c.block-item.is (sym c.in_ok-line.ensures.line ∙ c.in-None.is) c.loop-block.invariant.0,
  (c.in_ok-line.ensures.tally, c.in_ok-line.ensures.leading),
)
