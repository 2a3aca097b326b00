use Rattle.std.proofs.Common.{◌≡◌, ◌++◌, take, flat_map}
use Rattle.il_types.specs.Prelude.{param_definers}
use Rattle.il_types.proofs.definers.collect_params.Given as goal

abbrev pub invariant-loop-param : goal.invariant-loop-param
invariant-loop-param l = l.found.items ≡ l.fn.found.items ++ flat_map param_definers (take l.param-index l.params)
