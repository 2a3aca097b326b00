use Rattle.std.proofs.Common.{sym, ◌∙◌, rules}
use Rattle.il_reader.proofs.Falling.{fallen_more}
use Rattle.il_reader.proofs.function.more_blocks.Goals as goal

pub loop-preserved : goal.loop-preserved
loop-preserved c =
    sym (fallen_more c.rounds-end.result c.loop.counter c.loop.blocks c.next_block.new.blocks c.loop.last c.in_ok-last.last
    c.loop.reader c.next_block.new.reader c.loop-test.true (search rules) c.in_ok-last.ensures)
    ∙ c.loop.invariant
