use Rattle.abi_frames.proofs.Promising.{frames_are_labelled}
use Rattle.abi_frames.proofs.laws.frames_are_labelled.Goals as goal

pub returns : goal.returns
returns c = frames_are_labelled
