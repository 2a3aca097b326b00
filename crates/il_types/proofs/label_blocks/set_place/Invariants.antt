use Rattle.std.proofs.Common.{◌≡◌, ℕ, ◌+◌, ◌-◌, length}
use Rattle.il_types.specs.Prelude.{place_in}
use Rattle.il_types.proofs.label_blocks.set_place.Given as goal

abbrev pub invariant-loop-table : goal.invariant-loop-table
invariant-loop-table l = (j : ℕ) → place_in l.table.items j ≡ place_in l.fn.table.items j

abbrev pub decreases-loop-table : goal.decreases-loop-table
decreases-loop-table l = l.label + 1 - length l.table.items
