use Rattle.std.proofs.Common.{◌≡◌, ◌++◌, take, flat_map}
use Rattle.promote.specs.Uses.{block_mentions}
use Rattle.promote.proofs.mentions.collect_blocks.Given as goal

abbrev pub invariant-loop-block : goal.invariant-loop-block
invariant-loop-block l = l.found.items ≡ l.fn.found.items ++ flat_map block_mentions (take l.block-index l.blocks)
