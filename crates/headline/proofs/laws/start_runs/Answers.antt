use Rattle.headline.proofs.StartCode.{start_runs}
use Rattle.headline.proofs.laws.start_runs.Goals as goal

pub returns : goal.returns
returns c = start_runs
