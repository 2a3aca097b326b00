use Rattle.alloc_check.proofs.Measures.{certified_keeps}
use Rattle.alloc_check.proofs.laws.sound_certificates_keep.Goals as goal

pub returns : goal.returns
returns c = certified_keeps
