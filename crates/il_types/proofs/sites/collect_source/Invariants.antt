use Rattle.std.proofs.Common.{◌≡◌, ◌++◌, ◌∷◌, [], take, flat_map}
use Rattle.il_ast.specs.declared.block.PhiArg.{PhiArg}
use Rattle.il_types.proofs.sites.collect_source.Given as goal

abbrev pub invariant-loop-arg : goal.invariant-loop-arg
invariant-loop-arg l = l.found.items ≡ l.fn.found.items ++ flat_map (λ (a : PhiArg). record { line = l.phi.line; number = a.from } ∷ []) (take l.arg-index l.args)
