use Rattle.std.proofs.Common.{sym, ◌∙◌, rules}
use Rattle.il_reader.specs.Prelude.{sees, comma, is_comma, is_word, parameter}
use Rattle.il_reader.proofs.Rounds.{separated_more}
use Rattle.il_reader.proofs.function.more_parameters.Goals as goal

pub loop-preserved : goal.loop-preserved
loop-preserved c =
    sym (separated_more c.rounds-end.result c.loop.counter (sees is_comma) comma (sees is_word) parameter
    c.loop.params c.push_parameter.new.params c.loop.reader c.piece.new.self c.push_parameter.new.reader
    c.loop-test.true (search rules) (search rules) (search rules) c.in_ok-push_parameter.ensures)
    ∙ c.loop.invariant
