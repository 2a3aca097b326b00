use Rattle.std.proofs.Common.{◌≡◌, drop, map}
use Rattle.std.specs.List.{list_all}
use Rattle.obj_link.specs.Prelude.{program, shown}
use Rattle.stack_bound.specs.Bounds.{object_fits}
use Rattle.stack_bound.proofs.data.objects_fit.Given as goal

abbrev pub invariant-loop-object : goal.invariant-loop-object
invariant-loop-object l = list_all (object_fits (program l.linked) l.bounds) (map shown (drop l.object-index l.objects)) ≡ list_all (object_fits (program l.fn.linked) l.fn.bounds) (map shown l.fn.objects)
