use Rattle.std.proofs.Common.{drop}
use Rattle.value_numbering.specs.Reused.{AllKnown}
use Rattle.value_numbering.proofs.ways.are_known.Given as goal

abbrev pub invariant-loop-fact : goal.invariant-loop-fact
invariant-loop-fact l = AllKnown l.marks l.facts l.order (drop l.fact-index l.wanted) → AllKnown l.marks l.facts l.order l.wanted
