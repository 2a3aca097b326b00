use Rattle.std.proofs.Common.{◌≡◌, ◌++◌, take, flat_map}
use Rattle.select.specs.Narrow.{inst_destinations}
use Rattle.select.proofs.classes.collect_insts.Given as goal

abbrev pub invariant-loop-inst : goal.invariant-loop-inst
invariant-loop-inst l = l.assigned ≡ l.fn.assigned ++ flat_map inst_destinations (take l.inst-index l.insts)
