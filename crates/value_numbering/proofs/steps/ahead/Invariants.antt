use Rattle.std.proofs.Common.{◌≡◌, drop}
use Rattle.value_numbering.specs.Steps.{ahead}
use Rattle.value_numbering.proofs.steps.ahead.Given as goal

abbrev pub invariant-loop-fact : goal.invariant-loop-fact
invariant-loop-fact l = ahead (drop l.fact-index l.facts) l.from l.register ≡ ahead l.facts l.from l.register
