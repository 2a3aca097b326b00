use Rattle.std.proofs.Common.{◌≡◌, ◌++◌, drop, map}
use Rattle.obj_link.specs.Prelude.{objects_end, object_addresses, shown}
use Rattle.qbec.specs.Symbols.{entry, object_entries}
use Rattle.qbec.proofs.symbols.table.push_objects.Given as goal

abbrev pub invariant-loop-object : goal.invariant-loop-object
invariant-loop-object l = record {
  listed : map entry l.found.items ++ object_entries l.texts (object_addresses l.at (map shown (drop l.object-index l.objects))) (map shown (drop l.object-index l.objects))
      ≡ map entry l.fn.found.items ++ object_entries l.texts (object_addresses l.fn.start (map shown l.objects)) (map shown l.objects);
  end : objects_end l.at (map shown (drop l.object-index l.objects)) ≡ objects_end l.fn.start (map shown l.objects);
}
