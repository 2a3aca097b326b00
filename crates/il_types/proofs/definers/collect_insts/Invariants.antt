use Rattle.std.proofs.Common.{◌≡◌, ◌++◌, take, flat_map}
use Rattle.il_types.specs.Prelude.{inst_definers}
use Rattle.il_types.proofs.definers.collect_insts.Given as goal

abbrev pub invariant-loop-inst : goal.invariant-loop-inst
invariant-loop-inst l = l.found.items ≡ l.fn.found.items ++ flat_map inst_definers (take l.inst-index l.insts)
