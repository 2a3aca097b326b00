use Rattle.std.proofs.Common.{◌≡◌, ◌<◌, ◌+◌, ℕ, false, Some, slice_get}
use Rattle.rv_machine.specs.declared.regions.Region.{Region}
use Rattle.rv_machine.specs.Regions.{touches}
use Rattle.rv_machine.proofs.lookup.first_of.Given as goal

abbrev pub invariant-loop-k : goal.invariant-loop-k
invariant-loop-k l = (j : ℕ) (r : Region) → j < l.k → slice_get l.regions j ≡ Some r → touches l.at (l.more + 1) r ≡ false
