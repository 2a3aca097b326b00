use Rattle.std.proofs.Common.{◌≡◌, take}
use Rattle.il_types.specs.Prelude.{capped, phis_weight}
use Rattle.il_types.proofs.cost.phis_weight.Given as goal

abbrev pub invariant-loop-phi : goal.invariant-loop-phi
invariant-loop-phi l = l.total ≡ capped (phis_weight (take l.phi-index l.phis))
