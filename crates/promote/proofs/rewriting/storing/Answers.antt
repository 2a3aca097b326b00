use Rattle.std.proofs.Common.{rules}
use Rattle.promote.proofs.rewriting.storing.Goals as goal

pub returns-in-Word : goal.returns-in-Word
returns-in-Word c = search rules
