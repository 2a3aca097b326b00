use Rattle.std.proofs.Common.{sym, ◌∙◌}
use Rattle.value_numbering.specs.Reused.{Counted}
use Rattle.value_numbering.proofs.lines.counted.Goals as goal

pub returns-in-Some-holder-clause-holds : goal.returns-in-Some-holder-clause-holds
returns-in-Some-holder-clause-holds c = Counted (sym c.linear_in.ensures ∙ c.in-Some.is) c.in-Some-holder.ensures.holds
