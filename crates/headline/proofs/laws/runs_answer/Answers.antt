use Rattle.headline.proofs.Answering.{runs_answer}
use Rattle.headline.proofs.laws.runs_answer.Goals as goal

pub returns : goal.returns
returns c = runs_answer
