use Rattle.std.proofs.Common.{◌≡◌, ℕ, ◌+◌, ◌-◌, length}
use Rattle.promote.specs.Uses.{standing_at}
use Rattle.promote.proofs.standing.note.Given as goal

abbrev pub invariant-loop-table : goal.invariant-loop-table
invariant-loop-table l = (t : ℕ) → standing_at l.table.items t ≡ standing_at l.fn.table.items t

abbrev pub decreases-loop-table : goal.decreases-loop-table
decreases-loop-table l = l.number + 1 - length l.table.items
