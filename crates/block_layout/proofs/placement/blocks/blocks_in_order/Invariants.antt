use Rattle.std.proofs.Common.{◌≡◌, take, map}
use Rattle.block_layout.specs.Ordered.{block_at, placed}
use Rattle.block_layout.proofs.placement.blocks.blocks_in_order.Given as goal

abbrev pub invariant-loop-number : goal.invariant-loop-number
invariant-loop-number l = l.made.items ≡ map (λ k. placed l.order (block_at l.blocks k)) (take l.number-index l.order)
