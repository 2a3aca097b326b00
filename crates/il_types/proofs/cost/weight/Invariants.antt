use Rattle.std.proofs.Common.{◌≡◌, ◌+◌, take, length, sum_by}
use Rattle.il_types.specs.Prelude.{capped}
use Rattle.il_ast.specs.Prelude.{block_weight}
use Rattle.il_types.proofs.cost.weight.Given as goal

abbrev pub invariant-loop-block : goal.invariant-loop-block
invariant-loop-block l = l.total ≡ capped (length l.function.params + sum_by block_weight (take l.block-index l.blocks))
