use Rattle.std.proofs.Common.{◌≡◌, ◌++◌, take, flat_map}
use Rattle.il_types.specs.Prelude.{block_definers}
use Rattle.il_types.proofs.definers.collect_blocks.Given as goal

abbrev pub invariant-loop-block : goal.invariant-loop-block
invariant-loop-block l = l.found.items ≡ l.fn.found.items ++ flat_map block_definers (take l.block-index l.blocks)
