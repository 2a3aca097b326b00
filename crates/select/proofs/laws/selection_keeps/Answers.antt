use Rattle.select.proofs.Ending.{selected_keeps}
use Rattle.select.proofs.laws.selection_keeps.Goals as goal

pub returns : goal.returns
returns c = selected_keeps
