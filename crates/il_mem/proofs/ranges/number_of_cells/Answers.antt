use Rattle.il_mem.proofs.Putting.{inside_of}
use Rattle.il_mem.proofs.Reading.{spanned_if}
use Rattle.il_mem.proofs.ranges.number_of_cells.Goals as goal

pub returns-then-has_span : goal.returns-then-has_span
returns-then-has_span c =
    spanned_if c.args.from c.args.count c.read_number.result c.args.block.now
    (inside_of _ _ _ c.has_span.ensures c.if-has_span.true) c.read_number.ensures
