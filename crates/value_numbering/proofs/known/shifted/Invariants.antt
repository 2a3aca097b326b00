use Rattle.std.proofs.Common.{◌≡◌, drop}
use Rattle.value_numbering.specs.Known.{shifted}
use Rattle.value_numbering.proofs.known.shifted.Given as goal

abbrev pub invariant-loop-fact : goal.invariant-loop-fact
invariant-loop-fact l = shifted (drop l.fact-index l.facts) l.register l.bits ≡ shifted l.facts l.register l.bits
