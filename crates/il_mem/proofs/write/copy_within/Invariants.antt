use Rattle.std.proofs.Common.{◌≡◌, ℕ, ◌+◌, ◌<◌, ◌≤◌, length, take, drop, slice_get}
use Rattle.il_mem.specs.Written.{written}
use Rattle.il_mem.proofs.write.copy_within.Given as goal

abbrev pub invariant-loop-k : goal.invariant-loop-k
invariant-loop-k l =
    (written (l.to + l.k) (drop l.k (take l.count (drop l.from l.fn.block))) l.block ≡ written l.to (take l.count (drop l.from l.fn.block)) l.fn.block)
    × (length l.block ≡ length l.fn.block)
    × ((j : ℕ) → l.from ≤ j → j < l.from + l.count → slice_get l.block j ≡ slice_get l.fn.block j)
