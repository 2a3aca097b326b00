use Rattle.obj_link.proofs.ThereLemmas.{what_names_mean}
use Rattle.obj_link.proofs.laws.programs_have_what_names_mean.Goals as goal

pub returns : goal.returns
returns c = what_names_mean
