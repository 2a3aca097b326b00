use Rattle.headline.proofs.Endless.{endless_programs_run_on}
use Rattle.headline.proofs.laws.endless_programs_run_on.Goals as goal

pub returns : goal.returns
returns c = endless_programs_run_on
