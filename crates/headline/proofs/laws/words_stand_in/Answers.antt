use Rattle.headline.proofs.CompiledRuns.{stands_in}
use Rattle.headline.proofs.laws.words_stand_in.Goals as goal

pub returns : goal.returns
returns c = stands_in
