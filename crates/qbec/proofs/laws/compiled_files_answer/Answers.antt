use Rattle.qbec.proofs.Answering.{compiled_files_answer}
use Rattle.qbec.proofs.laws.compiled_files_answer.Goals as goal

pub returns : goal.returns
returns c = compiled_files_answer
