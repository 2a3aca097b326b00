use Rattle.std.proofs.Common.{◌≡◌, drop}
use Rattle.std.specs.List.{list_any}
use Rattle.il_types.specs.Prelude.{takes_bytes}
use Rattle.il_types.proofs.objects.any_takes_bytes.Given as goal

abbrev pub invariant-loop-item : goal.invariant-loop-item
invariant-loop-item l = list_any takes_bytes (drop l.item-index l.items) ≡ list_any takes_bytes l.items
