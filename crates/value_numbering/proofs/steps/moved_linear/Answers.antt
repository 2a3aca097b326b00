use Rattle.std.proofs.Common.{rules}
use Rattle.value_numbering.proofs.steps.moved_linear.Goals as goal

pub returns-then-index-grown-2 : goal.returns-then-index-grown-2
returns-then-index-grown-2 c = search rules
