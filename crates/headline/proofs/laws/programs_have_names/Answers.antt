use Rattle.headline.proofs.DataPlaced.{programs_have_names}
use Rattle.headline.proofs.laws.programs_have_names.Goals as goal

pub returns : goal.returns
returns c = programs_have_names
