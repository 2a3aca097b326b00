use Rattle.promote.proofs.Programs.{outcome_stays}
use Rattle.promote.proofs.laws.outcome_stays.Goals as goal

pub returns : goal.returns
returns c = outcome_stays
