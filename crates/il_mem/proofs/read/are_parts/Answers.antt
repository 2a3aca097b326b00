use Rattle.std.proofs.Common.{◌∙◌, sym}
use Rattle.il_mem.proofs.Reading.{parts_go_on, parts_stop}
use Rattle.il_mem.proofs.read.are_parts.Goals as goal

pub returns-then-not-is_part : goal.returns-then-not-is_part
returns-then-not-is_part c =
    parts_stop c.args.block.now c.args.from c.args.count c.loop-k.k c.args.value c.get.result _ c.loop-k-test.true c.get.ensures
    (sym c.is_part.ensures ∙ c.if-not-is_part.true) c.loop-k.invariant

pub loop-k-preserved : goal.loop-k-preserved
loop-k-preserved c =
    parts_go_on c.args.block.now c.args.from c.args.count c.loop-k.k c.args.value c.get.result _ c.loop-k-test.true c.get.ensures
    (sym c.is_part.ensures ∙ c.if-not-is_part.false) c.loop-k.invariant
