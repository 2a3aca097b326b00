use Rattle.std.proofs.Common.{◌≡◌, take, flat_map}
use Rattle.il_ast.specs.Prelude.{globals_of, field_cells}
use Rattle.obj_link.specs.Prelude.{program}
use Rattle.il_interp.proofs.object.object_block.Given as goal

abbrev pub invariant-loop-field : goal.invariant-loop-field
invariant-loop-field l = l.block ≡ flat_map (field_cells (globals_of (program l.linked) l.object.text)) (take l.field-index l.fields)
