use Rattle.std.proofs.Common.{◌≡◌, take, sum_by}
use Rattle.il_types.specs.Prelude.{capped}
use Rattle.obj_link.specs.Prelude.{field_size}
use Rattle.obj_link.proofs.linking.limits.object_size.Given as goal

abbrev pub invariant-loop-field : goal.invariant-loop-field
invariant-loop-field l = l.total ≡ capped (sum_by field_size (take l.field-index l.fields))
