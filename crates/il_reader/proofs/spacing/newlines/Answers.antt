use Rattle.std.proofs.Common.{sym, ◌∙◌, rules}
use Rattle.il_reader.specs.Prelude.{sees, newline, is_newline}
use Rattle.il_reader.proofs.Rounds.{repeated_passed}
use Rattle.il_reader.proofs.spacing.newlines.Goals as goal

pub loop-preserved : goal.loop-preserved
loop-preserved c =
    sym (repeated_passed c.rounds-end.result c.loop.counter (sees is_newline) newline c.loop.reader c.newline.new.self
    c.loop-test.true (search rules) (search rules))
    ∙ c.loop.invariant
