use Rattle.std.proofs.Common.{◌≡◌, ◌++◌, take, flat_map}
use Rattle.select.specs.Narrow.{block_destinations}
use Rattle.select.proofs.classes.collect_blocks.Given as goal

abbrev pub invariant-loop-block : goal.invariant-loop-block
invariant-loop-block l = l.assigned ≡ l.fn.assigned ++ flat_map block_destinations (take l.block-index l.blocks)
