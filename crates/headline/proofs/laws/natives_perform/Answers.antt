use Rattle.headline.proofs.NativeCode.{natives_perform}
use Rattle.headline.proofs.laws.natives_perform.Goals as goal

pub returns : goal.returns
returns c = natives_perform
