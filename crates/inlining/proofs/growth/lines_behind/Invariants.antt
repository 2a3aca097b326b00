use Rattle.std.proofs.Common.{◌≡◌, ℕ, ◌+◌, drop, sum_by}
use Rattle.inlining.specs.Growth.{line_count}
use Rattle.inlining.proofs.growth.lines_behind.Given as goal

abbrev pub invariant-loop-block : goal.invariant-loop-block
invariant-loop-block l =
    sum_by line_count l.fn.blocks + l.left ≡ l.fn.whole + sum_by line_count (drop l.block-index l.blocks)
