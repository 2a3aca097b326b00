use Rattle.std.proofs.Common.{length}
use Rattle.il_interp.proofs.phi_numbers.+write_numbers.Given as goal

abbrev pub decreases-write_numbers : goal.decreases-write_numbers
decreases-write_numbers l = length l.phis.now
