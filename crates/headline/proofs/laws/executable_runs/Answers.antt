use Rattle.headline.proofs.Running.{executable_runs}
use Rattle.headline.proofs.laws.executable_runs.Goals as goal

pub returns : goal.returns
returns c = executable_runs
