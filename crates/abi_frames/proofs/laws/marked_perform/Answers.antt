use Rattle.abi_frames.proofs.Promising.{marked_perform}
use Rattle.abi_frames.proofs.laws.marked_perform.Goals as goal

pub returns : goal.returns
returns c = marked_perform
