use Rattle.std.proofs.Common.{◌≡◌, drop}
use Rattle.cfg_live.specs.Rows.{next_blocks}
use Rattle.cfg_live.proofs.points.push_next_blocks.Given as goal

abbrev pub invariant-loop-block : goal.invariant-loop-block
invariant-loop-block l = next_blocks l.firsts l.nexts.items (drop l.block-index l.blocks) ≡ next_blocks l.fn.firsts l.fn.nexts.items l.fn.blocks
