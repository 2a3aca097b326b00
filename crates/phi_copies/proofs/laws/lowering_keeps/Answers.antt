use Rattle.phi_copies.proofs.Lowering.{lowered_keeps}
use Rattle.phi_copies.proofs.laws.lowering_keeps.Goals as goal

pub returns : goal.returns
returns c = lowered_keeps
