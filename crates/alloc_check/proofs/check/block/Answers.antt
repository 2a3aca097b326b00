use Rattle.std.proofs.Common.{arith}
use Rattle.cfg_live.proofs.Counting.{jump_low}
use Rattle.alloc_check.proofs.check.block.Goals as goal

pub begin-requires-clause-room : goal.begin-requires-clause-room
begin-requires-clause-room c = let low = jump_low c.args.at.now.first c.args.at.now.block.now.lines in omega (arith, c.requires.room)

pub overflow_add-at : goal.overflow_add-at
overflow_add-at c = let low = jump_low c.args.at.now.first c.args.at.now.block.now.lines in grind (arith, c.requires.room)
