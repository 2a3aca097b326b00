use Rattle.std.proofs.Common.{◌≡◌, ◌++◌, drop}
use Rattle.value_numbering.specs.Steps.{carried}
use Rattle.value_numbering.proofs.steps.carried.Given as goal

abbrev pub invariant-loop-fact : goal.invariant-loop-fact
invariant-loop-fact l = l.all.items ++ carried l.increment l.line (drop l.fact-index l.facts) ≡ carried l.increment l.line l.facts
