use Rattle.std.proofs.Common.{length}
use Rattle.rv_machine.proofs.words.+push_pointers.Given as goal

abbrev pub decreases-push_pointers : goal.decreases-push_pointers
decreases-push_pointers l = length l.words.now
