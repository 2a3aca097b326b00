use Rattle.std.proofs.Common.{rules}
use Rattle.abi_frames.proofs.call.push_value.Goals as goal

pub returns-in-W : goal.returns-in-W
returns-in-W c = search rules
