use Rattle.qbec.proofs.TextLemmas.{TextsSoFar}
use Rattle.qbec.proofs.texts.checked_texts.Given as goal

abbrev pub invariant-loop-k : goal.invariant-loop-k
invariant-loop-k l = TextsSoFar l.texts l.k l.checked.items
