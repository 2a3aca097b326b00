use Rattle.std.proofs.Common.{◌≡◌, ◌+◌, drop, sum_by}
use Rattle.block_layout.specs.Joined.{burden}
use Rattle.block_layout.proofs.tails.weigh.left_behind.Given as goal

abbrev pub invariant-loop-line : goal.invariant-loop-line
invariant-loop-line l = sum_by burden l.fn.lines + l.left ≡ l.fn.whole + sum_by burden (drop l.line-index l.lines)
