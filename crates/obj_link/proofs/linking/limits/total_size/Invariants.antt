use Rattle.std.proofs.Common.{◌≡◌, take, map}
use Rattle.il_types.specs.Prelude.{capped}
use Rattle.obj_link.specs.Prelude.{shown, total_size}
use Rattle.obj_link.proofs.linking.limits.total_size.Given as goal

abbrev pub invariant-loop-object : goal.invariant-loop-object
invariant-loop-object l = l.total ≡ capped (total_size (map shown (take l.object-index l.objects)))
