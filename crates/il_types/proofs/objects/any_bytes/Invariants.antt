use Rattle.std.proofs.Common.{◌≡◌, drop}
use Rattle.std.specs.List.{list_any}
use Rattle.il_types.specs.Prelude.{has_bytes}
use Rattle.il_types.proofs.objects.any_bytes.Given as goal

abbrev pub invariant-loop-field : goal.invariant-loop-field
invariant-loop-field l = list_any has_bytes (drop l.field-index l.fields) ≡ list_any has_bytes l.fields
