use Rattle.std.proofs.Common.{◌≡◌, take}
use Rattle.il_ast.specs.Prelude.{largest_of}
use Rattle.il_types.proofs.cost.args_past_eight.Given as goal

abbrev pub invariant-loop-block : goal.invariant-loop-block
invariant-loop-block l = l.most ≡ largest_of (take l.block-index l.blocks)
