use Rattle.cfg_live.proofs.Exact.{closed_is_exact}
use Rattle.cfg_live.proofs.laws.closed_is_exact.Goals as goal

pub returns : goal.returns
returns c = closed_is_exact
