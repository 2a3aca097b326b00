use Rattle.std.proofs.Common.{◌≡◌, ◌+◌, drop, true, nat_le}
use Rattle.std.specs.List.{list_all, sum_by}
use Rattle.il_ast.specs.declared.limits.TheConstants.{FUNCTION_WEIGHT}
use Rattle.vcode.specs.Prelude.{turns_of}
use Rattle.abi_frames.proofs.turns.are_few.Given as goal

abbrev pub invariant-loop-block : goal.invariant-loop-block
invariant-loop-block l =
    (sum_by (λ b. sum_by turns_of b.lines) l.fn.blocks + l.left ≡ FUNCTION_WEIGHT + sum_by (λ b. sum_by turns_of b.lines) (drop l.block-index l.blocks))
    × (list_all (λ b. nat_le (sum_by turns_of b.lines) FUNCTION_WEIGHT) (drop l.block-index l.blocks) ≡ true)
