use Rattle.std.proofs.Common.{rules}
use Rattle.abi_frames.proofs.saved.push_return_address.Goals as goal

pub returns-in_ok-push : goal.returns-in_ok-push
returns-in_ok-push c = search rules
