use Rattle.headline.proofs.DataPlaced.{stands_well}
use Rattle.headline.proofs.laws.executables_stand.Goals as goal

pub returns : goal.returns
returns c = stands_well
