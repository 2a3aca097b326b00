use Rattle.std.proofs.Common.{◌≡◌, drop}
use Rattle.std.specs.List.{list_any}
use Rattle.abi_frames.specs.Performs.{block_calls}
use Rattle.abi_frames.proofs.saved.blocks_call.Given as goal

abbrev pub invariant-loop-block : goal.invariant-loop-block
invariant-loop-block l = list_any block_calls (drop l.block-index l.blocks) ≡ list_any block_calls l.fn.blocks
