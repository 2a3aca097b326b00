use Rattle.std.proofs.Common.{◌≡◌, ◌++◌, map, drop}
use Rattle.il_ast.specs.declared.block.Phi.{Phi}
use Rattle.select.proofs.classes.push_classes.Given as goal

abbrev pub invariant-loop-phi : goal.invariant-loop-phi
invariant-loop-phi l = l.table ++ map (λ (p : Phi). p.to.class) (drop l.phi-index l.phis) ≡ l.fn.table ++ map (λ (p : Phi). p.to.class) l.fn.phis
