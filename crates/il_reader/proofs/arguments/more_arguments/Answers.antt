use Rattle.std.proofs.Common.{sym, ◌∙◌, rules}
use Rattle.il_reader.specs.Prelude.{sees, argument, comma, is_comma, is_word}
use Rattle.il_reader.proofs.Rounds.{separated_more}
use Rattle.il_reader.proofs.arguments.more_arguments.Goals as goal

pub loop-preserved : goal.loop-preserved
loop-preserved c =
    sym (separated_more c.rounds-end.result c.loop.counter (sees is_comma) comma (sees is_word) argument
    c.loop.args c.push_argument.new.args c.loop.reader c.piece.new.self c.push_argument.new.reader
    c.loop-test.true (search rules) (search rules) (search rules) c.in_ok-push_argument.ensures)
    ∙ c.loop.invariant
