use Rattle.std.proofs.Common.{◌≡◌, ◌+◌, drop, sum_by}
use Rattle.vcode.specs.Prelude.{alloc_bytes}
use Rattle.abi_frames.proofs.room.blocks_area.Given as goal

abbrev pub invariant-loop-block : goal.invariant-loop-block
invariant-loop-block l =
    l.total + sum_by (λ b. sum_by alloc_bytes b.lines) (drop l.block-index l.blocks) ≡ sum_by (λ b. sum_by alloc_bytes b.lines) l.fn.blocks
