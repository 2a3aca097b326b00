use Rattle.std.proofs.Common.{◌≡◌, drop, max}
use Rattle.abi_frames.specs.Performs.{most_in_blocks}
use Rattle.abi_frames.proofs.room.most_in_blocks.Given as goal

abbrev pub invariant-loop-block : goal.invariant-loop-block
invariant-loop-block l = max l.most (most_in_blocks (drop l.block-index l.blocks)) ≡ most_in_blocks l.fn.blocks
