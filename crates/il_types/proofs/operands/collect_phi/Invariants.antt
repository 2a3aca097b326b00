use Rattle.std.proofs.Common.{◌≡◌, ◌++◌, ◌∷◌, [], take, flat_map}
use Rattle.il_ast.specs.declared.block.PhiArg.{PhiArg}
use Rattle.il_types.specs.Prelude.{operand_at}
use Rattle.il_types.proofs.operands.collect_phi.Given as goal

abbrev pub invariant-loop-arg : goal.invariant-loop-arg
invariant-loop-arg l = l.found.items ≡ l.fn.found.items ++ flat_map (λ (a : PhiArg). operand_at l.phi.line l.phi.to.class a.value ∷ []) (take l.arg-index l.args)
