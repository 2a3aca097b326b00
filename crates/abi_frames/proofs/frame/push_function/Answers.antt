use Rattle.operation_code.proofs.Joining.{joined_4}
use Rattle.abi_frames.proofs.frame.push_function.Goals as goal

pub returns : goal.returns
returns c = joined_4 _ _ _ _ _ _ _ _ _ c.in_ok-push_prologue.ensures c.in_ok-push_entry.ensures c.in_ok-push_blocks.ensures c.in_ok-push_end.ensures
