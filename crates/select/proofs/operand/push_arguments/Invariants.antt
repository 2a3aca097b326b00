use Rattle.std.proofs.Common.{◌≡◌, ◌++◌, map, drop}
use Rattle.select.specs.Selected.{argument_of}
use Rattle.select.specs.Narrow.{narrow_arg}
use Rattle.select.proofs.operand.push_arguments.Given as goal

abbrev pub invariant-loop-arg : goal.invariant-loop-arg
invariant-loop-arg l = l.made ++ map argument_of (map narrow_arg (drop l.arg-index l.args)) ≡ l.fn.made ++ map argument_of (map narrow_arg l.fn.args)
