use Rattle.std.proofs.Common.{◌≡◌, ◌++◌, drop}
use Rattle.alloc_check.specs.Prelude.{certified_params}
use Rattle.alloc_check.proofs.certified.push_params.Given as goal

abbrev pub invariant-loop-k : goal.invariant-loop-k
invariant-loop-k l = l.placed ++ certified_params (drop l.k l.params) (drop l.k l.places) ≡ l.fn.placed ++ certified_params l.fn.params l.fn.places
