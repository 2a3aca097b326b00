use Rattle.std.proofs.Common.{◌≡◌, drop, None}
use Rattle.alloc_check.proofs.Entering.{owner_from}
use Rattle.alloc_check.proofs.entry.owner_at.Given as goal

abbrev pub invariant-loop-k : goal.invariant-loop-k
invariant-loop-k l = owner_from (drop l.k l.params) (drop l.k l.places) l.place l.owner ≡ owner_from l.fn.params l.fn.places l.fn.place None
