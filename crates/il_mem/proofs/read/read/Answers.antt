use Rattle.std.proofs.Common.{◌∙◌, sym, take, drop}
use Rattle.il_mem.proofs.Reading.{value_of_number}
use Rattle.il_mem.proofs.read.read.Goals as goal

pub returns-in-Some : goal.returns-in-Some
returns-in-Some c = sym (value_of_number (take c.args.count (drop c.args.from c.args.block.now)) c.in-Some.number (sym c.read_number.ensures ∙ c.in-Some.is))
