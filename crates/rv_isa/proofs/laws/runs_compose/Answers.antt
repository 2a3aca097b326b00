use Rattle.rv_isa.proofs.RunLemmas.{comes_by_step, comes_then}
use Rattle.rv_isa.proofs.laws.runs_compose.Goals as goal

pub returns : goal.returns
returns c = record { step = comes_by_step; compose = λ s t u m n first second. comes_then first second }
