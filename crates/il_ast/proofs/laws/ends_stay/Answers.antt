use Rattle.il_ast.proofs.GoingOn.{meaning_stays}
use Rattle.il_ast.proofs.laws.ends_stay.Goals as goal

pub returns : goal.returns
returns c = meaning_stays
