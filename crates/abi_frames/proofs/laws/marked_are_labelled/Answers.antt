use Rattle.abi_frames.proofs.Promising.{marked_are_labelled}
use Rattle.abi_frames.proofs.laws.marked_are_labelled.Goals as goal

pub returns : goal.returns
returns c = marked_are_labelled
