use Rattle.std.proofs.Common.{◌≡◌, take}
use Rattle.il_types.specs.Prelude.{capped, insts_alloc}
use Rattle.il_types.proofs.cost.insts_alloc.Given as goal

abbrev pub invariant-loop-inst : goal.invariant-loop-inst
invariant-loop-inst l = l.total ≡ capped (insts_alloc (take l.inst-index l.insts))
