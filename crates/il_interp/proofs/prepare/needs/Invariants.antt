use Rattle.std.proofs.Common.{◌≡◌, map, take}
use Rattle.obj_link.specs.Prelude.{shown}
use Rattle.il_interp.specs.Places.{needs_of}
use Rattle.il_interp.proofs.prepare.needs.Given as goal

abbrev pub invariant-loop-function : goal.invariant-loop-function
invariant-loop-function l = l.needs.items ≡ needs_of (map shown (take l.function-index l.functions))
