use Rattle.std.proofs.Common.{◌≡◌, map, take}
use Rattle.il_ast.specs.declared.block.PhiArg.{PhiArg}
use Rattle.il_types.proofs.phis.labels.Given as goal

abbrev pub invariant-loop-arg : goal.invariant-loop-arg
invariant-loop-arg l = l.labels.items ≡ map (λ (a : PhiArg). a.from) (take l.arg-index l.args)
