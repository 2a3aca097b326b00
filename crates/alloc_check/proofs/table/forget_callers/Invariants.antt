use Rattle.std.proofs.Common.{◌≡◌, ℕ, nat_lt, if◌then◌else◌}
use Rattle.alloc_check.specs.Prelude.{item, forgets}
use Rattle.alloc_check.proofs.table.forget_callers.Given as goal

abbrev pub invariant-loop-register : goal.invariant-loop-register
invariant-loop-register l = (k : ℕ) → item l.cells k ≡ (if nat_lt k l.register then forgets l.time k (item l.fn.cells k) else item l.fn.cells k)
