use Rattle.std.proofs.Common.{◌≡◌, drop}
use Rattle.value_numbering.specs.Steps.{product}
use Rattle.value_numbering.proofs.steps.product.Given as goal

abbrev pub invariant-loop-fact : goal.invariant-loop-fact
invariant-loop-fact l = product (drop l.fact-index l.facts) l.register ≡ product l.facts l.register
