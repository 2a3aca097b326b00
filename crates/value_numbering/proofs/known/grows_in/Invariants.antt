use Rattle.std.proofs.Common.{◌≡◌, drop}
use Rattle.value_numbering.specs.Known.{grows_in}
use Rattle.value_numbering.proofs.known.grows_in.Given as goal

abbrev pub invariant-loop-fact : goal.invariant-loop-fact
invariant-loop-fact l = grows_in (drop l.fact-index l.facts) l.register l.number ≡ grows_in l.facts l.register l.number
