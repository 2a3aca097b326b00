use Rattle.std.proofs.Common.{◌≡◌, drop}
use Rattle.il_types.specs.Prelude.{in_insts, has_wrong_result}
use Rattle.il_types.proofs.insts.wrong_result.Given as goal

abbrev pub invariant-loop-block : goal.invariant-loop-block
invariant-loop-block l = in_insts has_wrong_result (drop l.block-index l.blocks) ≡ in_insts has_wrong_result l.blocks
