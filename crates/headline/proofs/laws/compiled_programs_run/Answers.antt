use Rattle.headline.proofs.CompiledRuns.{compiled_runs}
use Rattle.headline.proofs.laws.compiled_programs_run.Goals as goal

pub returns : goal.returns
returns c = compiled_runs
