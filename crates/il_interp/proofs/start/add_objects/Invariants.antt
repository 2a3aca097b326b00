use Rattle.std.proofs.Common.{◌≡◌, ◌++◌, map, take, Some}
use Rattle.il_ast.specs.declared.datum.DataDef.{DataDef}
use Rattle.il_ast.specs.declared.program.InText.{InText}
use Rattle.il_ast.specs.Prelude.{object_cells}
use Rattle.obj_link.specs.Prelude.{shown, program}
use Rattle.il_interp.proofs.start.add_objects.Given as goal

abbrev pub invariant-loop-object : goal.invariant-loop-object
invariant-loop-object l = l.memory ≡ l.fn.memory ++ map (λ (d : InText DataDef). Some (object_cells (program l.linked) d)) (map shown (take l.object-index l.objects))
