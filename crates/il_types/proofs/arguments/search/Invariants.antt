use Rattle.std.proofs.Common.{◌≡◌, drop, nat_eq, find}
use Rattle.il_ast.specs.declared.block.PhiArg.{PhiArg}
use Rattle.il_types.proofs.arguments.search.Given as goal

abbrev pub invariant-loop-arg : goal.invariant-loop-arg
invariant-loop-arg l = find (λ (a : PhiArg). nat_eq a.from l.from) (drop l.arg-index l.args) ≡ find (λ (a : PhiArg). nat_eq a.from l.from) l.args
