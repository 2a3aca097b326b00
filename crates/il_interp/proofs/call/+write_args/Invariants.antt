use Rattle.std.proofs.Common.{length}
use Rattle.il_interp.proofs.call.+write_args.Given as goal

abbrev pub decreases-write_args : goal.decreases-write_args
decreases-write_args l = length l.params.now
