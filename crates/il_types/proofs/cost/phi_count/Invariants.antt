use Rattle.std.proofs.Common.{◌≡◌, take, length, sum_by}
use Rattle.il_ast.specs.declared.block.Block.{Block}
use Rattle.il_types.specs.Prelude.{capped}
use Rattle.il_types.proofs.cost.phi_count.Given as goal

abbrev pub invariant-loop-block : goal.invariant-loop-block
invariant-loop-block l = l.total ≡ capped (sum_by (λ (b : Block). length b.phis) (take l.block-index l.blocks))
