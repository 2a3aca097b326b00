use Rattle.std.proofs.Common.{◌≡◌, ◌++◌, drop}
use Rattle.select.specs.Narrow.{listed, narrow_blocks}
use Rattle.select.proofs.select.push_blocks.Given as goal

abbrev pub invariant-loop-number : goal.invariant-loop-number
invariant-loop-number l = l.made ++ narrow_blocks (listed l.classes) (drop l.number l.blocks) (drop l.number l.endings) ≡ l.fn.made ++ narrow_blocks (listed l.classes) l.fn.blocks l.fn.endings
