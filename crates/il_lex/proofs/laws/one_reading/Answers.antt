use Rattle.il_lex.proofs.Exact.{one_reading}
use Rattle.il_lex.proofs.laws.one_reading.Goals as goal

pub returns : goal.returns
returns c = one_reading
