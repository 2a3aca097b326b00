use Rattle.std.proofs.Common.{◌≡◌, ◌++◌, drop, map, flat_map}
use Rattle.obj_link.specs.Prelude.{shown, slot_bytes}
use Rattle.obj_link.proofs.placing.data_bytes.push_objects.Given as goal

abbrev pub invariant-loop-object : goal.invariant-loop-object
invariant-loop-object l =
    l.bytes.items ++ flat_map (slot_bytes l.addresses l.targets) (map shown (drop l.object-index l.objects))
    ≡ l.fn.bytes.items ++ flat_map (slot_bytes l.fn.addresses l.fn.targets) (map shown l.fn.objects)
