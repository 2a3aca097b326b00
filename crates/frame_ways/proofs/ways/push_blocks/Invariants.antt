use Rattle.std.proofs.Common.{◌≡◌, ◌++◌, drop, map}
use Rattle.frame_ways.specs.Plans.{part_block}
use Rattle.frame_ways.proofs.ways.push_blocks.Given as goal

abbrev pub invariant-loop-part : goal.invariant-loop-part
invariant-loop-part l =
    l.blocks.items ++ map (part_block l.code l.plan) (drop l.part-index l.parts) ≡ l.fn.blocks.items ++ map (part_block l.fn.code l.fn.plan) l.fn.parts
