use Rattle.std.proofs.Common.{◌∙◌, sym, true, false}
use Rattle.il_mem.proofs.Reading.{value_of_parts, value_of_others}
use Rattle.il_mem.proofs.read.read_whole.Goals as goal

pub returns-then-are_parts : goal.returns-then-are_parts
returns-then-are_parts c =
    value_of_parts c.args.block.now c.args.from c.args.count c.get.result c.in-Some.value true c.requires.some c.get.ensures
    (sym c.whole_of.ensures ∙ c.in-Some.is) c.if-are_parts.ensures

pub returns-else-are_parts : goal.returns-else-are_parts
returns-else-are_parts c =
    value_of_parts c.args.block.now c.args.from c.args.count c.get.result c.in-Some.value false c.requires.some c.get.ensures
    (sym c.whole_of.ensures ∙ c.in-Some.is) c.if-are_parts.ensures

pub returns-in-None : goal.returns-in-None
returns-in-None c =
    sym (value_of_others c.args.block.now c.args.from c.args.count c.get.result c.requires.some c.get.ensures (sym c.whole_of.ensures ∙ c.in-None.is) c.requires.mixed)
