use Rattle.std.proofs.Common.{length}
use Rattle.obj_link.proofs.arguments.+hold_no_zero.Given as goal

abbrev pub decreases-hold_no_zero : goal.decreases-hold_no_zero
decreases-hold_no_zero l = length l.words.now
