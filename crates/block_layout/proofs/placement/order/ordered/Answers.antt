use Rattle.std.proofs.Common.{ℕ, List, map, ◌∙◌, ap}
use Rattle.vcode.specs.declared.code.Block.{Block}
use Rattle.vcode.specs.Prelude.{with_these}
use Rattle.vcode.proofs.Results.{becomes_these}
use Rattle.block_layout.specs.Ordered.{block_at, placed, in_order}
use Rattle.block_layout.proofs.KeepingOrder.{holds, owed}
use Rattle.block_layout.proofs.placement.order.ordered.Goals as goal

pub with_blocks-requires-clause-becomes : goal.with_blocks-requires-clause-becomes
with_blocks-requires-clause-becomes c =
    let v = c.args.function.now in
    let order = c.args.order.now in
    becomes_these v v.registers (in_order order v.code).blocks c.in_ok-blocks.blocks (owed order v (holds order v.code c.requires.order))
    (c.in_ok-blocks.ensures ∙ ap (λ (bs : List (Block ℕ)). map (λ k. placed order (block_at bs k)) order) c.as_slice.ensures)

pub returns-clause-code : goal.returns-clause-code
returns-clause-code c =
    let order = c.args.order.now in
    c.in_ok-made.ensures.code
    ∙ ap (with_these c.args.function.now.code) (c.in_ok-blocks.ensures ∙ ap (λ (bs : List (Block ℕ)). map (λ k. placed order (block_at bs k)) order) c.as_slice.ensures)
