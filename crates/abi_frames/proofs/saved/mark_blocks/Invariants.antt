use Rattle.std.proofs.Common.{◌≡◌, ◌<◌, ◌||◌, ℕ, drop, length}
use Rattle.std.specs.List.{list_any}
use Rattle.abi_frames.specs.Performs.{block_writes, is_marked}
use Rattle.abi_frames.proofs.saved.mark_blocks.Given as goal

abbrev pub invariant-loop-block : goal.invariant-loop-block
invariant-loop-block l =
    (length l.marks ≡ length l.fn.marks)
    × ((n : ℕ) → n < length l.fn.marks
    → (is_marked l.marks n || list_any (block_writes n) (drop l.block-index l.blocks)) ≡ (is_marked l.fn.marks n || list_any (block_writes n) l.fn.blocks))
