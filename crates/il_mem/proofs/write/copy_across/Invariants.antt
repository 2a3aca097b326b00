use Rattle.std.proofs.Common.{◌≡◌, ◌+◌, length, take, drop}
use Rattle.il_mem.specs.Written.{written}
use Rattle.il_mem.proofs.write.copy_across.Given as goal

abbrev pub invariant-loop-k : goal.invariant-loop-k
invariant-loop-k l =
    (written (l.to + l.k) (drop l.k (take l.count (drop l.from l.source))) l.block ≡ written l.to (take l.count (drop l.from l.source)) l.fn.block)
    × (length l.block ≡ length l.fn.block)
