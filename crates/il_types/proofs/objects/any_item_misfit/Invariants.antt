use Rattle.std.proofs.Common.{◌≡◌, drop}
use Rattle.std.specs.List.{list_any}
use Rattle.il_types.specs.Prelude.{is_misfit}
use Rattle.il_types.proofs.objects.any_item_misfit.Given as goal

abbrev pub invariant-loop-item : goal.invariant-loop-item
invariant-loop-item l = list_any (is_misfit l.size) (drop l.item-index l.items) ≡ list_any (is_misfit l.size) l.items
