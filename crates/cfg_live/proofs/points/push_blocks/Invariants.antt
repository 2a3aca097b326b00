use Rattle.std.proofs.Common.{◌≡◌, ◌++◌, drop}
use Rattle.cfg_live.specs.Rows.{with_blocks, starts_after}
use Rattle.cfg_live.proofs.points.push_blocks.Given as goal

abbrev pub invariant-loop-block : goal.invariant-loop-block
invariant-loop-block l = (with_blocks l.uses.items (drop l.block-index l.blocks) ≡ with_blocks l.fn.uses.items l.fn.blocks) × (l.firsts.items ++ starts_after l.uses.items (drop l.block-index l.blocks) ≡ l.fn.firsts.items ++ starts_after l.fn.uses.items l.fn.blocks)
