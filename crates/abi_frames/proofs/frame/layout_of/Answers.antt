use Rattle.std.proofs.Common.{rules}
use Rattle.abi_frames.proofs.frame.layout_of.Goals as goal

pub returns : goal.returns
returns c = search rules
