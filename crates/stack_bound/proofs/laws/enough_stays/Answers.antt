use Rattle.stack_bound.proofs.GoodRuns.{enough_stays}
use Rattle.stack_bound.proofs.laws.enough_stays.Goals as goal

pub returns : goal.returns
returns c = enough_stays
