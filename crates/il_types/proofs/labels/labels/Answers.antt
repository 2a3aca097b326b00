use Rattle.std.proofs.Common.{ap, nat_eq}
use Rattle.il_ast.specs.declared.block.Block.{Block}
use Rattle.il_types.proofs.OneMore.{any_on}
use Rattle.il_types.proofs.labels.labels.Goals as goal

pub loop-block-preserved : goal.loop-block-preserved
loop-block-preserved c = λ l. any_on (λ (b : Block). nat_eq b.label l) c.args.blocks.now c.loop-block.block-index c.block-item.result (nat_eq c.number.result l) _ _ c.loop-block-test.true c.block-item.is (ap (λ n. nat_eq n l) c.number.ensures) (c.loop-block.invariant l) (c.in_ok-mark.ensures l)
