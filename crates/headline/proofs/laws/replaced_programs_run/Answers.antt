use Rattle.headline.proofs.CompiledRuns.{replaced_runs}
use Rattle.headline.proofs.laws.replaced_programs_run.Goals as goal

pub returns : goal.returns
returns c = replaced_runs
