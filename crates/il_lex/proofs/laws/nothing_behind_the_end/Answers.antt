use Rattle.il_lex.proofs.Exact.{end_is_end}
use Rattle.il_lex.proofs.laws.nothing_behind_the_end.Goals as goal

pub returns : goal.returns
returns c = end_is_end
