use Rattle.std.proofs.Common.{sym, ◌∙◌, rules}
use Rattle.il_reader.specs.Prelude.{sees, comma, is_comma, is_word, spaced, field}
use Rattle.il_reader.proofs.Rounds.{separated_more}
use Rattle.il_reader.proofs.datum.more_fields.Goals as goal

pub loop-preserved : goal.loop-preserved
loop-preserved c =
    sym (separated_more c.rounds-end.result c.loop.counter (sees is_comma) (spaced comma) (sees is_word) field
    c.loop.fields c.push_field.new.fields c.loop.reader c.spaced_piece.new.reader c.push_field.new.reader
    c.loop-test.true (search rules) (search rules) (search rules) c.in_ok-push_field.ensures)
    ∙ c.loop.invariant
