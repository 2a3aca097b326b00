use Rattle.std.proofs.Common.{◌≡◌, ◌++◌, map, drop}
use Rattle.vcode.specs.declared.place.Location.TheVariants.{Slot}
use Rattle.alloc_check.specs.Prelude.{placed_destination}
use Rattle.alloc_check.proofs.spill_all.push_params.Given as goal

abbrev pub invariant-loop-param : goal.invariant-loop-param
invariant-loop-param l = l.placed ++ map (placed_destination Slot) (drop l.param-index l.params) ≡ l.fn.placed ++ map (placed_destination Slot) l.fn.params
