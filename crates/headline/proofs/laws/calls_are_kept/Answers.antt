use Rattle.headline.proofs.Tied.{calls_are_kept}
use Rattle.headline.proofs.laws.calls_are_kept.Goals as goal

pub returns : goal.returns
returns c = calls_are_kept
