use Rattle.std.proofs.Common.{rules}
use Rattle.abi_frames.proofs.call.callee_source.Goals as goal

pub returns-in-At-Register : goal.returns-in-At-Register
returns-in-At-Register c = search rules
