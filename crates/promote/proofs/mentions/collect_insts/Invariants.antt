use Rattle.std.proofs.Common.{◌≡◌, ◌++◌, take, flat_map}
use Rattle.promote.specs.Uses.{inst_mentions}
use Rattle.promote.proofs.mentions.collect_insts.Given as goal

abbrev pub invariant-loop-inst : goal.invariant-loop-inst
invariant-loop-inst l = l.found.items ≡ l.fn.found.items ++ flat_map inst_mentions (take l.inst-index l.insts)
