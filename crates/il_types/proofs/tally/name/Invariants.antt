use Rattle.std.proofs.Common.{◌≡◌, ℕ, ◌+◌, ◌-◌, length}
use Rattle.il_types.specs.Prelude.{named}
use Rattle.il_types.proofs.tally.name.Given as goal

abbrev pub invariant-loop-tally : goal.invariant-loop-tally
invariant-loop-tally l = (n : ℕ) → named l.tally.items n ≡ named l.fn.tally.items n

abbrev pub decreases-loop-tally : goal.decreases-loop-tally
decreases-loop-tally l = l.number + 1 - length l.tally.items
