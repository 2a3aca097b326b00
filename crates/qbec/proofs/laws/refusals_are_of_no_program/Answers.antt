use Rattle.qbec.proofs.ProgramLemmas.{no_refusal}
use Rattle.qbec.proofs.laws.refusals_are_of_no_program.Goals as goal

pub returns : goal.returns
returns c = no_refusal
