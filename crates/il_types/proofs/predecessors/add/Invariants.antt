use Rattle.std.proofs.Common.{◌≡◌, ℕ, ◌+◌, ◌-◌, length}
use Rattle.il_types.specs.Prelude.{row}
use Rattle.il_types.proofs.predecessors.add.Given as goal

abbrev pub invariant-loop-alloc : goal.invariant-loop-alloc
invariant-loop-alloc l = (j : ℕ) → row l.rows.items j ≡ row l.fn.rows.items j

abbrev pub decreases-loop-alloc : goal.decreases-loop-alloc
decreases-loop-alloc l = l.at + 1 - length l.rows.items
