use Rattle.obj_link.proofs.FitLemmas.{program_fits}
use Rattle.obj_link.proofs.laws.programs_fit.Goals as goal

pub returns : goal.returns
returns c = program_fits
