use Rattle.std.proofs.Common.{◌≡◌, drop}
use Rattle.il_ast.specs.Prelude.{globals_of, all_operands}
use Rattle.obj_link.specs.Prelude.{program}
use Rattle.il_interp.proofs.ListLemmas.{found_then}
use Rattle.il_interp.proofs.operand.all_operands.Given as goal

abbrev pub invariant-loop-arg : goal.invariant-loop-arg
invariant-loop-arg l =
    all_operands (globals_of (program l.linked) l.text) l.temps l.args
    ≡ found_then l.values.items (all_operands (globals_of (program l.linked) l.text) l.temps (drop l.arg-index l.args))
