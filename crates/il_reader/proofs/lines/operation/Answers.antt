use Rattle.std.proofs.Common.{sym, ◌∙◌}
use Rattle.il_reader.specs.Prelude.{operation_of}
use Rattle.il_reader.proofs.Keywords.{keyword_read}
use Rattle.il_reader.proofs.lines.operation.Goals as goal

pub returns-in-Some : goal.returns-in-Some
returns-in-Some c =
    keyword_read operation_of c.args.reader.now c.word.new.self c.in_ok-text.text.now c.in-Some.operation
    c.in_ok-text.ensures (sym c.operation_of.ensures ∙ c.in-Some.is)
