use Rattle.std.proofs.Common.{◌≡◌, ◌++◌, map, drop}
use Rattle.obj_link.specs.Prelude.{shown, objects_from}
use Rattle.obj_link.proofs.linking.names.objects.Given as goal

abbrev pub invariant-loop-number : goal.invariant-loop-number
invariant-loop-number l = map shown l.found.items ++ objects_from l.number (drop l.number l.texts) ≡ objects_from 0 l.texts
