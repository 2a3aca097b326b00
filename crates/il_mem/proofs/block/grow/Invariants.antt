use Rattle.std.proofs.Common.{◌+◌, ◌-◌, ◌≤◌, length, vec_capacity}
use Rattle.il_mem.specs.Joined.{ShowsSame}
use Rattle.il_mem.proofs.block.grow.Given as goal

abbrev pub invariant-loop-values : goal.invariant-loop-values
invariant-loop-values l =
    ShowsSame l.fn.values.items l.values.items × (vec_capacity l.fn.values ≤ vec_capacity l.values)

abbrev pub decreases-loop-values : goal.decreases-loop-values
decreases-loop-values l = l.at + 1 - length l.values.items
