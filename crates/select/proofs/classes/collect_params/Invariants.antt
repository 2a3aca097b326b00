use Rattle.std.proofs.Common.{◌≡◌, ◌++◌, map, drop}
use Rattle.select.specs.Narrow.{param_destination}
use Rattle.select.proofs.classes.collect_params.Given as goal

abbrev pub invariant-loop-param : goal.invariant-loop-param
invariant-loop-param l = l.assigned ++ map param_destination (drop l.param-index l.params) ≡ l.fn.assigned ++ map param_destination l.fn.params
