use Rattle.std.proofs.Common.{◌≡◌, ◌+◌, length, drop, sum_by}
use Rattle.il_ast.specs.declared.block.Block.{Block}
use Rattle.il_ast.specs.Prelude.{phi_count}
use Rattle.select.proofs.select.count_registers.Given as goal

abbrev pub invariant-loop-block : goal.invariant-loop-block
invariant-loop-block l = l.number + sum_by (λ (b : Block). length b.phis) (drop l.block-index l.block-items) ≡ length l.func.temps + phi_count l.func
