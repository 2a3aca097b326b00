use Rattle.std.proofs.Common.{rules}
use Rattle.constant_placement.proofs.hoisting.replace.HeldReplace.operand.Goals as goal

pub returns-then-is_it : goal.returns-then-is_it
returns-then-is_it c = search rules
