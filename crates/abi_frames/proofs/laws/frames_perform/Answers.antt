use Rattle.abi_frames.proofs.Promising.{frames_perform}
use Rattle.abi_frames.proofs.laws.frames_perform.Goals as goal

pub returns : goal.returns
returns c = frames_perform
