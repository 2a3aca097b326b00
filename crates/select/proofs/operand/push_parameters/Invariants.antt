use Rattle.std.proofs.Common.{◌≡◌, ◌++◌, map, drop}
use Rattle.select.specs.Narrow.{narrow_parameter}
use Rattle.select.proofs.operand.push_parameters.Given as goal

abbrev pub invariant-loop-param : goal.invariant-loop-param
invariant-loop-param l = l.made ++ map narrow_parameter (drop l.param-index l.params) ≡ l.fn.made ++ map narrow_parameter l.fn.params
