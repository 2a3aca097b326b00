use Rattle.std.proofs.Common.{length}
use Rattle.obj_link.proofs.arguments.+total_fits.Given as goal

abbrev pub decreases-total_fits : goal.decreases-total_fits
decreases-total_fits l = length l.words.now
