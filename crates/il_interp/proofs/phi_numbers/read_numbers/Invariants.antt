use Rattle.std.proofs.Common.{◌≡◌, List, drop, map}
use Rattle.il_ast.specs.declared.value.Value.{Value}
use Rattle.il_ast.specs.declared.value.Value.TheVariants.{Integer}
use Rattle.il_ast.specs.Prelude.{phi_values}
use Rattle.il_interp.proofs.ListLemmas.{found_then}
use Rattle.il_interp.proofs.phi_numbers.read_numbers.Given as goal

abbrev pub invariant-loop-at : goal.invariant-loop-at
invariant-loop-at l =
    (globals : List Value) → phi_values globals l.temps l.from l.phis ≡ found_then (map Integer l.numbers.items) (phi_values globals l.temps l.from (drop l.at l.phis))
