use Rattle.std.proofs.Common.{◌≡◌, ◌++◌, take, flat_map}
use Rattle.promote.specs.Uses.{param_mentions}
use Rattle.promote.proofs.mentions.collect_params.Given as goal

abbrev pub invariant-loop-param : goal.invariant-loop-param
invariant-loop-param l = l.found.items ≡ l.fn.found.items ++ flat_map param_mentions (take l.param-index l.params)
