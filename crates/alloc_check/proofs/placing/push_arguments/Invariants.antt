use Rattle.std.proofs.Common.{◌≡◌, ◌++◌, map, drop}
use Rattle.alloc_check.specs.Prelude.{placed_argument}
use Rattle.alloc_check.proofs.placing.push_arguments.Given as goal

abbrev pub invariant-loop-arg : goal.invariant-loop-arg
invariant-loop-arg g l =
    l.placed ++ map (placed_argument (g.P.Placing.layout l.fn.places)) (drop l.arg-index l.args) ≡ l.fn.placed ++ map (placed_argument (g.P.Placing.layout l.fn.places)) l.fn.args
