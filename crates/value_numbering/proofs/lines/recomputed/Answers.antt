use Rattle.value_numbering.specs.Reused.{Again}
use Rattle.value_numbering.proofs.lines.recomputed.Goals as goal

pub returns-in-Some-copy : goal.returns-in-Some-copy
returns-in-Some-copy c = Again c.in-Some.ensures c.in-Some-copy.ensures
