use Rattle.std.proofs.Common.{◌≡◌, drop, is_none}
use Rattle.il_types.specs.Prelude.{when, first}
use Rattle.il_ast.specs.declared.block.Block.{Block}
use Rattle.il_types.proofs.labels.block_without_jump.Given as goal

abbrev pub invariant-loop-block : goal.invariant-loop-block
invariant-loop-block l = first (λ (b : Block). when (is_none b.jump) b.line) (drop l.block-index l.blocks) ≡ first (λ (b : Block). when (is_none b.jump) b.line) l.blocks
