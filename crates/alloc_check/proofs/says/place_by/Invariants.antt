use Rattle.std.proofs.Common.{◌≡◌, drop}
use Rattle.alloc_check.specs.Prelude.{place_by}
use Rattle.alloc_check.proofs.says.place_by.Given as goal

abbrev pub invariant-loop-equality : goal.invariant-loop-equality
invariant-loop-equality l = place_by (drop l.equality-index l.equalities) l.register ≡ place_by l.fn.equalities l.register
