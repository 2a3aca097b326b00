use Rattle.inlining.proofs.SiteLaw.{calls_keep}
use Rattle.inlining.proofs.laws.calls_in_place_keep.Goals as goal

pub returns : goal.returns
returns c = calls_keep
