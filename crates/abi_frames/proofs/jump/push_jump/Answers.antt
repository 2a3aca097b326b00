use Rattle.std.proofs.Common.{rules}
use Rattle.abi_frames.proofs.jump.push_jump.Goals as goal

pub returns-in_ok-push-in-Halt : goal.returns-in_ok-push-in-Halt
returns-in_ok-push-in-Halt c = search rules
