use Rattle.std.proofs.Common.{◌≡◌, ◌++◌, map, drop}
use Rattle.obj_link.specs.Prelude.{shown, names_of_objects}
use Rattle.obj_link.proofs.linking.names.name_objects.Given as goal

abbrev pub invariant-loop-number : goal.invariant-loop-number
invariant-loop-number l = l.names.items ++ names_of_objects l.number (map shown (drop l.number l.objects)) ≡ l.fn.names.items ++ names_of_objects 0 (map shown l.objects)
