use Rattle.std.proofs.Common.{◌≡◌, take}
use Rattle.il_types.specs.Prelude.{capped, insts_weight}
use Rattle.il_types.proofs.cost.insts_weight.Given as goal

abbrev pub invariant-loop-inst : goal.invariant-loop-inst
invariant-loop-inst l = l.total ≡ capped (insts_weight (take l.inst-index l.insts))
