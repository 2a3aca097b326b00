use Rattle.std.proofs.Common.{rules}
use Rattle.il_interp.proofs.numbers.in_class.Goals as goal

pub returns-in-W : goal.returns-in-W
returns-in-W c = search rules
