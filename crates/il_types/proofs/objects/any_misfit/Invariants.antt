use Rattle.std.proofs.Common.{◌≡◌, drop}
use Rattle.std.specs.List.{list_any}
use Rattle.il_types.specs.Prelude.{has_misfit}
use Rattle.il_types.proofs.objects.any_misfit.Given as goal

abbrev pub invariant-loop-field : goal.invariant-loop-field
invariant-loop-field l = list_any has_misfit (drop l.field-index l.fields) ≡ list_any has_misfit l.fields
