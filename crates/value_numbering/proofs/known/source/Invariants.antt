use Rattle.std.proofs.Common.{◌≡◌, drop}
use Rattle.value_numbering.specs.Known.{source}
use Rattle.value_numbering.proofs.known.source.Given as goal

abbrev pub invariant-loop-fact : goal.invariant-loop-fact
invariant-loop-fact l = source (drop l.fact-index l.facts) l.register ≡ source l.facts l.register
