use Rattle.std.proofs.Common.{drop}
use Rattle.propagation.specs.FactTable.{facts_of}
use Rattle.propagation.specs.Forwarded.{AreKnown}
use Rattle.propagation.proofs.constants.claim.are_known.Given as goal

abbrev pub invariant-loop-claim : goal.invariant-loop-claim
invariant-loop-claim l = AreKnown (facts_of l.table) (drop l.claim-index l.claims) → AreKnown (facts_of l.table) l.claims
