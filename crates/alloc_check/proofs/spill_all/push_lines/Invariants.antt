use Rattle.std.proofs.Common.{◌≡◌, ◌++◌, map, drop}
use Rattle.vcode.specs.declared.place.Location.TheVariants.{Slot}
use Rattle.alloc_check.specs.Prelude.{placed_line}
use Rattle.alloc_check.proofs.spill_all.push_lines.Given as goal

abbrev pub invariant-loop-from : goal.invariant-loop-from
invariant-loop-from l = l.placed ++ map (placed_line Slot) (drop l.from-index l.lines) ≡ l.fn.placed ++ map (placed_line Slot) l.fn.lines
