use Rattle.std.proofs.Common.{◌≡◌, ◌+◌, drop, sum_by}
use Rattle.vcode.specs.Prelude.{weight_of}
use Rattle.abi_frames.proofs.price.blocks_weight.Given as goal

abbrev pub invariant-loop-block : goal.invariant-loop-block
invariant-loop-block l =
    l.total + sum_by (λ b. sum_by weight_of b.lines) (drop l.block-index l.blocks) ≡ sum_by (λ b. sum_by weight_of b.lines) l.fn.blocks
