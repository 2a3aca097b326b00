use Rattle.std.proofs.Common.{◌≡◌, ℕ, take}
use Rattle.obj_link.specs.Prelude.{own, held}
use Rattle.obj_link.proofs.linking.tables.owned.Given as goal

abbrev pub invariant-loop-global : goal.invariant-loop-global
invariant-loop-global l = (t s : ℕ) → held l.table t s ≡ own (take l.global-index l.names) t s
