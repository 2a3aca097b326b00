use Rattle.value_numbering.specs.Reused.{Listed, OfCopies}
use Rattle.value_numbering.proofs.ways.is_known.Goals as goal

pub returns-then-is_listed : goal.returns-then-is_listed
returns-then-is_listed c = λ h. Listed (c.is_listed.ensures c.if-is_listed.true)

pub returns-then-is_linear : goal.returns-then-is_linear
returns-then-is_linear c = λ h. OfCopies (c.is_of_copies.ensures h)
