use Rattle.std.proofs.Common.{◌≡◌, ◌+◌, drop, sum_by}
use Rattle.vcode.specs.Prelude.{weight_of}
use Rattle.inlining.proofs.growth.weight_behind_lines.Given as goal

abbrev pub invariant-loop-line : goal.invariant-loop-line
invariant-loop-line l = sum_by weight_of l.fn.lines + l.left ≡ l.fn.whole + sum_by weight_of (drop l.line-index l.lines)
