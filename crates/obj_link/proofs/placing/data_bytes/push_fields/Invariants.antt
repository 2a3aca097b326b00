use Rattle.std.proofs.Common.{◌≡◌, ◌++◌, drop, flat_map}
use Rattle.obj_link.specs.Prelude.{field_bytes}
use Rattle.obj_link.proofs.placing.data_bytes.push_fields.Given as goal

abbrev pub invariant-loop-field : goal.invariant-loop-field
invariant-loop-field l =
    l.bytes.items ++ flat_map (field_bytes l.addresses l.targets l.text) (drop l.field-index l.fields) ≡ l.fn.bytes.items ++ flat_map (field_bytes l.fn.addresses l.fn.targets l.fn.text) l.fn.fields
