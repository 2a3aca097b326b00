use Rattle.std.proofs.Common.{◌≡◌, ℕ, take}
use Rattle.il_types.specs.Prelude.{named, often, times_in}
use Rattle.il_types.proofs.tally.name_all.Given as goal

abbrev pub invariant-loop-number : goal.invariant-loop-number
invariant-loop-number l = (n : ℕ) → named l.tally.items n ≡ often (times_in n (take l.number-index l.numbers))
