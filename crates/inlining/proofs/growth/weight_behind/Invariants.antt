use Rattle.std.proofs.Common.{◌≡◌, ℕ, ◌+◌, drop, sum_by}
use Rattle.vcode.specs.declared.code.Block.{Block}
use Rattle.vcode.specs.Prelude.{weight_of}
use Rattle.inlining.proofs.growth.weight_behind.Given as goal

abbrev pub invariant-loop-block : goal.invariant-loop-block
invariant-loop-block l =
    sum_by (λ (b : Block ℕ). sum_by weight_of b.lines) l.fn.blocks + l.left ≡ l.fn.whole + sum_by (λ (b : Block ℕ). sum_by weight_of b.lines) (drop l.block-index l.blocks)
