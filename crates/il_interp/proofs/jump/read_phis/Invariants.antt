use Rattle.std.proofs.Common.{◌≡◌, drop}
use Rattle.il_ast.specs.Prelude.{globals_of, phi_values}
use Rattle.obj_link.specs.Prelude.{program}
use Rattle.il_interp.proofs.ListLemmas.{found_then}
use Rattle.il_interp.proofs.jump.read_phis.Given as goal

abbrev pub invariant-loop-phi : goal.invariant-loop-phi
invariant-loop-phi l =
    phi_values (globals_of (program l.linked) l.text) l.temps l.from l.phis
    ≡ found_then l.values.items (phi_values (globals_of (program l.linked) l.text) l.temps l.from (drop l.phi-index l.phis))
