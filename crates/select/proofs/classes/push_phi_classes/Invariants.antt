use Rattle.std.proofs.Common.{◌≡◌, ◌++◌, take, flat_map}
use Rattle.select.specs.Narrow.{phi_classes}
use Rattle.select.proofs.classes.push_phi_classes.Given as goal

abbrev pub invariant-loop-block : goal.invariant-loop-block
invariant-loop-block l = l.table ≡ l.fn.table ++ flat_map phi_classes (take l.block-index l.blocks)
