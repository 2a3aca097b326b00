use Rattle.rv_isa.proofs.KeepLemmas.{step_keeps}
use Rattle.rv_isa.proofs.laws.step_keeps.Goals as goal

pub returns : goal.returns
returns c = step_keeps
