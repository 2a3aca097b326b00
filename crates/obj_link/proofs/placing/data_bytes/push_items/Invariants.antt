use Rattle.std.proofs.Common.{◌≡◌, ◌++◌, drop, flat_map}
use Rattle.obj_link.specs.Prelude.{item_bytes}
use Rattle.obj_link.proofs.placing.data_bytes.push_items.Given as goal

abbrev pub invariant-loop-item : goal.invariant-loop-item
invariant-loop-item l =
    l.bytes.items ++ flat_map (item_bytes l.addresses l.targets l.text l.size) (drop l.item-index l.items) ≡ l.fn.bytes.items ++ flat_map (item_bytes l.fn.addresses l.fn.targets l.fn.text l.fn.size) l.fn.items
