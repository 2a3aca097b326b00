use Rattle.std.proofs.Common.{◌≡◌, ◌++◌, take, flat_map}
use Rattle.il_ast.specs.Prelude.{globals_of, item_cells}
use Rattle.obj_link.specs.Prelude.{program}
use Rattle.il_interp.proofs.object.push_items.Given as goal

abbrev pub invariant-loop-item : goal.invariant-loop-item
invariant-loop-item l = l.block ≡ l.fn.block ++ flat_map (item_cells (globals_of (program l.linked) l.text) l.size) (take l.item-index l.items)
