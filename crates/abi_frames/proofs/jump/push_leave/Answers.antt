use Rattle.std.proofs.Common.{rules}
use Rattle.abi_frames.proofs.jump.push_leave.Goals as goal

pub returns-then-not-is_next : goal.returns-then-not-is_next
returns-then-not-is_next c = search rules
