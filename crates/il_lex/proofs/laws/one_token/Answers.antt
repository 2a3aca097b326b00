use Rattle.il_lex.proofs.Exact.{one_next}
use Rattle.il_lex.proofs.laws.one_token.Goals as goal

pub returns : goal.returns
returns c = one_next
