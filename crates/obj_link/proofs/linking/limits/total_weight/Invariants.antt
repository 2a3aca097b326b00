use Rattle.std.proofs.Common.{◌≡◌, take, map}
use Rattle.il_types.specs.Prelude.{capped}
use Rattle.obj_link.specs.Prelude.{shown, total_weight}
use Rattle.obj_link.proofs.linking.limits.total_weight.Given as goal

abbrev pub invariant-loop-function : goal.invariant-loop-function
invariant-loop-function l = l.total ≡ capped (total_weight (map shown (take l.function-index l.functions)))
