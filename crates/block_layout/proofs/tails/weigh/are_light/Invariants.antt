use Rattle.std.proofs.Common.{◌≡◌, ◌+◌, drop, sum_by}
use Rattle.il_ast.specs.declared.limits.TheConstants.{FUNCTION_WEIGHT}
use Rattle.block_layout.specs.Joined.{block_burden}
use Rattle.block_layout.proofs.tails.weigh.are_light.Given as goal

abbrev pub invariant-loop-block : goal.invariant-loop-block
invariant-loop-block l = sum_by block_burden l.fn.blocks + l.left ≡ FUNCTION_WEIGHT + sum_by block_burden (drop l.block-index l.blocks)
