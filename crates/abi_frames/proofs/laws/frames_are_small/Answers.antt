use Rattle.abi_frames.proofs.Promising.{frames_are_small}
use Rattle.abi_frames.proofs.laws.frames_are_small.Goals as goal

pub returns : goal.returns
returns c = frames_are_small
