use Rattle.std.proofs.Common.{◌≡◌}
use Rattle.dead_code.proofs.guess.sweep_down.Given as goal

abbrev pub invariant-loop-k : goal.invariant-loop-k
invariant-loop-k l = l.set.length ≡ l.fn.set.length
