use Rattle.std.proofs.Common.{◌≡◌, ◌+◌, drop, sum_by}
use Rattle.step_by_step.specs.Function.{measured}
use Rattle.step_by_step.proofs.code_text.rules.check.is_within.Given as goal

abbrev pub invariant-loop-block : goal.invariant-loop-block
invariant-loop-block g l =
    sum_by (λ b. sum_by (measured l.measure) b.lines) l.fn.blocks + l.left ≡ l.fn.most + sum_by (λ b. sum_by (measured l.measure) b.lines) (drop l.block-index l.blocks)
