use Rattle.std.proofs.Common.{◌≡◌, ℕ, map, take, length}
use Rattle.obj_link.specs.Prelude.{shown}
use Rattle.il_interp.specs.Places.{placed, places_of}
use Rattle.il_interp.proofs.prepare.places.Given as goal

abbrev pub invariant-loop-function : goal.invariant-loop-function
invariant-loop-function l =
    (length l.tables.items ≡ l.function-index) × ((k j : ℕ) → placed l.tables.items k j ≡ places_of (map shown (take l.function-index l.functions)) k j)
