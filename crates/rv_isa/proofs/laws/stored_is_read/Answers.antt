use Rattle.rv_isa.proofs.MemoryLemmas.{read_back}
use Rattle.rv_isa.proofs.laws.stored_is_read.Goals as goal

pub returns : goal.returns
returns c = read_back
