use Rattle.std.proofs.Common.{sym, ◌∙◌, rules}
use Rattle.il_reader.specs.Prelude.{sees, is_item, item}
use Rattle.il_reader.proofs.Rounds.{repeated_more}
use Rattle.il_reader.proofs.datum.more_items.Goals as goal

pub loop-preserved : goal.loop-preserved
loop-preserved c =
    sym (repeated_more c.rounds-end.result c.loop.counter (sees is_item) item
    c.loop.items c.push_item.new.items c.loop.reader c.push_item.new.reader
    c.loop-test.true (search rules) c.in_ok-push_item.ensures)
    ∙ c.loop.invariant
