use Rattle.std.proofs.Common.{◌≡◌, take, map}
use Rattle.promote.specs.Uses.{widths_by, promoted_block}
use Rattle.promote.proofs.rewriting.promoted_blocks.Given as goal

abbrev pub invariant-loop-block : goal.invariant-loop-block
invariant-loop-block l = l.now.items ≡ map (promoted_block (widths_by l.table)) (take l.block-index l.blocks)
