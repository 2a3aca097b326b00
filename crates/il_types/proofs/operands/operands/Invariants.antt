use Rattle.std.proofs.Common.{◌≡◌, take, flat_map}
use Rattle.il_types.specs.Prelude.{block_operands}
use Rattle.il_types.proofs.operands.operands.Given as goal

abbrev pub invariant-loop-block : goal.invariant-loop-block
invariant-loop-block l = l.found.items ≡ flat_map block_operands (take l.block-index l.blocks)
