use Rattle.std.proofs.Common.{◌≡◌, ◌+◌, drop, sum_by}
use Rattle.step_by_step.specs.Function.{measured}
use Rattle.step_by_step.proofs.code_text.rules.check.left_behind.Given as goal

abbrev pub invariant-loop-line : goal.invariant-loop-line
invariant-loop-line g l = sum_by (measured l.measure) l.fn.lines + l.left ≡ l.fn.whole + sum_by (measured l.measure) (drop l.line-index l.lines)
