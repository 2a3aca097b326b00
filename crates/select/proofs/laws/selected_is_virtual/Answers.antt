use Rattle.select.proofs.Parameters.{is_virtual}
use Rattle.select.proofs.laws.selected_is_virtual.Goals as goal

pub returns : goal.returns
returns c = is_virtual
