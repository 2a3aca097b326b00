use Rattle.obj_link.proofs.ProgramLemmas.{one_program}
use Rattle.obj_link.proofs.laws.at_most_one_program.Goals as goal

pub returns : goal.returns
returns c = one_program
