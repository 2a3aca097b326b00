use Rattle.rv_isa.proofs.StepLemmas.{step_at}
use Rattle.rv_isa.proofs.laws.step_acts.Goals as goal

pub returns : goal.returns
returns c = step_at
