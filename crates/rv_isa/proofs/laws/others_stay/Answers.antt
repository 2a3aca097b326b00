use Rattle.rv_isa.proofs.MemoryLemmas.{stored_below, stored_above, stored_avoids}
use Rattle.rv_isa.proofs.laws.others_stay.Goals as goal

pub returns : goal.returns
returns c = record { below = stored_below; above = stored_above; passing = stored_avoids }
