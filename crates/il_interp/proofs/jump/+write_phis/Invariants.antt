use Rattle.std.proofs.Common.{length}
use Rattle.il_interp.proofs.jump.+write_phis.Given as goal

abbrev pub decreases-write_phis : goal.decreases-write_phis
decreases-write_phis l = length l.phis.now
