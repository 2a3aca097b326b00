use Rattle.std.proofs.Common.{◌≡◌}
use Rattle.dead_code.proofs.guess.sweep_all.Given as goal

abbrev pub invariant-loop-number : goal.invariant-loop-number
invariant-loop-number l = l.set.length ≡ l.fn.set.length
