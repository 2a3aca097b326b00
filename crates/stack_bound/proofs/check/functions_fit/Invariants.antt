use Rattle.std.proofs.Common.{◌≡◌, drop, map}
use Rattle.obj_link.specs.Prelude.{program, shown}
use Rattle.stack_bound.specs.Bounds.{functions_fit}
use Rattle.stack_bound.proofs.check.functions_fit.Given as goal

abbrev pub invariant-loop-number : goal.invariant-loop-number
invariant-loop-number l = functions_fit (program l.linked) l.bounds l.number (map shown (drop l.number l.functions)) ≡ functions_fit (program l.fn.linked) l.fn.bounds 0 (map shown l.fn.functions)
