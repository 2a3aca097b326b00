use Rattle.qbec.proofs.ProgramLemmas.{one_program_of}
use Rattle.qbec.proofs.laws.at_most_one_program.Goals as goal

pub returns : goal.returns
returns c = one_program_of
