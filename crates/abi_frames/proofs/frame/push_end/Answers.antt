use Rattle.operation_code.proofs.Joining.{joined_2}
use Rattle.abi_frames.proofs.frame.push_end.Goals as goal

pub returns : goal.returns
returns c = joined_2 _ _ _ _ _ c.in_ok-push.ensures.items c.in_ok-push_epilogue.ensures
