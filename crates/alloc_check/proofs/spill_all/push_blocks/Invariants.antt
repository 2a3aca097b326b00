use Rattle.std.proofs.Common.{◌≡◌, ◌++◌, map, drop}
use Rattle.vcode.specs.declared.place.Location.TheVariants.{Slot}
use Rattle.alloc_check.specs.Prelude.{placed_block}
use Rattle.alloc_check.proofs.spill_all.push_blocks.Given as goal

abbrev pub invariant-loop-block : goal.invariant-loop-block
invariant-loop-block l = l.placed ++ map (placed_block Slot) (drop l.block-index l.blocks) ≡ l.fn.placed ++ map (placed_block Slot) l.fn.blocks
