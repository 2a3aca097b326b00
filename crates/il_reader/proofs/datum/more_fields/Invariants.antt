use Rattle.std.proofs.Common.{◌≡◌, ◌-◌, suc, length}
use Rattle.il_reader.specs.Prelude.{sees, separated, comma, is_comma, is_word, spaced, field, appended}
use Rattle.il_reader.proofs.datum.more_fields.Given as goal

abbrev pub invariant-loop : goal.invariant-loop
invariant-loop l =
    appended l.fields (separated (l.end - l.counter) (sees is_comma) (spaced comma) (sees is_word) field l.reader)
    ≡ appended l.fn.fields (separated (suc (length l.fn.reader.rest)) (sees is_comma) (spaced comma) (sees is_word) field l.fn.reader)
