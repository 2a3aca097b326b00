use Rattle.std.proofs.Common.{◌≡◌, take, map}
use Rattle.propagation.specs.Copied.{reading_block}
use Rattle.propagation.proofs.copies.read.blocks.Given as goal

abbrev pub invariant-loop-item : goal.invariant-loop-item
invariant-loop-item l = l.made.items ≡ map reading_block (take l.item-index l.from)
