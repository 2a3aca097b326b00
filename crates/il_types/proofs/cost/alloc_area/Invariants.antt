use Rattle.std.proofs.Common.{◌≡◌, take, sum_by}
use Rattle.il_ast.specs.declared.block.Block.{Block}
use Rattle.il_types.specs.Prelude.{capped, insts_alloc}
use Rattle.il_types.proofs.cost.alloc_area.Given as goal

abbrev pub invariant-loop-block : goal.invariant-loop-block
invariant-loop-block l = l.total ≡ capped (sum_by (λ (b : Block). insts_alloc b.insts) (take l.block-index l.blocks))
