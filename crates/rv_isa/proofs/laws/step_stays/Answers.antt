use Rattle.rv_isa.proofs.StayLemmas.{step_stays}
use Rattle.rv_isa.proofs.laws.step_stays.Goals as goal

pub returns : goal.returns
returns c = step_stays
