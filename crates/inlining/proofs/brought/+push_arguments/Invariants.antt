use Rattle.std.proofs.Common.{length}
use Rattle.inlining.proofs.brought.+push_arguments.Given as goal

abbrev pub decreases-push_arguments : goal.decreases-push_arguments
decreases-push_arguments l = length l.params.now
