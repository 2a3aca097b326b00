use Rattle.std.proofs.Common.{sym, ◌∙◌}
use Rattle.value_numbering.specs.Reused.{Copy}
use Rattle.value_numbering.proofs.lines.copy.Goals as goal

pub returns-in-Some-reused : goal.returns-in-Some-reused
returns-in-Some-reused c = Copy (sym c.computed.ensures ∙ c.in-Some.is) c.in-Some-reused.ensures.low c.in-Some-reused.ensures.holds
