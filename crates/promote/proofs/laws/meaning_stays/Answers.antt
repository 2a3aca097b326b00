use Rattle.promote.proofs.Programs.{meaning_stays}
use Rattle.promote.proofs.laws.meaning_stays.Goals as goal

pub returns : goal.returns
returns c = meaning_stays
