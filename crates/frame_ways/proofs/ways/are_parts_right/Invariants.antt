use Rattle.std.proofs.Common.{◌≡◌, drop}
use Rattle.std.specs.List.{list_all}
use Rattle.frame_ways.specs.Plans.{is_part_right}
use Rattle.frame_ways.proofs.ways.are_parts_right.Given as goal

abbrev pub invariant-loop-part : goal.invariant-loop-part
invariant-loop-part l = list_all (is_part_right l.code l.plan) (drop l.part-index l.parts) ≡ list_all (is_part_right l.fn.code l.fn.plan) l.fn.parts
