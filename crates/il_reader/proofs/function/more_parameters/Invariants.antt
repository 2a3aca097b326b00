use Rattle.std.proofs.Common.{◌≡◌, ◌-◌, suc, length}
use Rattle.il_reader.specs.Prelude.{sees, separated, comma, is_comma, is_word, parameter, appended}
use Rattle.il_reader.proofs.function.more_parameters.Given as goal

abbrev pub invariant-loop : goal.invariant-loop
invariant-loop l =
    appended l.params (separated (l.end - l.counter) (sees is_comma) comma (sees is_word) parameter l.reader)
    ≡ appended l.fn.params (separated (suc (length l.fn.reader.rest)) (sees is_comma) comma (sees is_word) parameter l.fn.reader)
