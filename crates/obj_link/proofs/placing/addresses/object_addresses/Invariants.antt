use Rattle.std.proofs.Common.{◌≡◌, ◌++◌, drop, map}
use Rattle.obj_link.specs.Prelude.{shown, objects_end, object_addresses}
use Rattle.obj_link.proofs.placing.addresses.object_addresses.Given as goal

abbrev pub invariant-loop-object : goal.invariant-loop-object
invariant-loop-object l =
    (l.found.items ++ object_addresses l.at (map shown (drop l.object-index l.objects)) ≡ object_addresses l.fn.start (map shown l.fn.objects))
    × (objects_end l.at (map shown (drop l.object-index l.objects)) ≡ objects_end l.fn.start (map shown l.fn.objects))
