use Rattle.std.proofs.Common.{length}
use Rattle.il_interp.proofs.call.+classes_fit.Given as goal

abbrev pub decreases-classes_fit : goal.decreases-classes_fit
decreases-classes_fit l = length l.args.now
