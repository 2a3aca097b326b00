use Rattle.std.proofs.Common.{◌≡◌, drop}
use Rattle.alloc_check.specs.Prelude.{names_once}
use Rattle.alloc_check.proofs.whole.names_once.Given as goal

abbrev pub invariant-loop-k : goal.invariant-loop-k
invariant-loop-k l = names_once (drop l.k l.equalities) ≡ names_once l.fn.equalities
