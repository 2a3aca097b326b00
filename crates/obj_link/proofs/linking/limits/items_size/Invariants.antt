use Rattle.std.proofs.Common.{◌≡◌, take, sum_by}
use Rattle.il_types.specs.Prelude.{capped}
use Rattle.obj_link.specs.Prelude.{item_size}
use Rattle.obj_link.proofs.linking.limits.items_size.Given as goal

abbrev pub invariant-loop-item : goal.invariant-loop-item
invariant-loop-item l = l.total ≡ capped (sum_by (item_size l.size) (take l.item-index l.items))
