use Rattle.std.proofs.Common.{◌≡◌, ◌-◌, suc, length}
use Rattle.il_reader.specs.Prelude.{sees, separated, phi_argument, comma, is_comma, is_label, appended}
use Rattle.il_reader.proofs.arguments.more_phi_arguments.Given as goal

abbrev pub invariant-loop : goal.invariant-loop
invariant-loop l =
    appended l.args (separated (l.end - l.counter) (sees is_comma) comma (sees is_label) phi_argument l.reader)
    ≡ appended l.fn.args (separated (suc (length l.fn.reader.rest)) (sees is_comma) comma (sees is_label) phi_argument l.fn.reader)
