use Rattle.std.proofs.Common.{◌≡◌, drop}
use Rattle.value_numbering.specs.Steps.{is_word_by}
use Rattle.value_numbering.proofs.steps.is_word.Given as goal

abbrev pub invariant-loop-fact : goal.invariant-loop-fact
invariant-loop-fact l = is_word_by l.facts (drop l.fact-index l.facts) l.register ≡ is_word_by l.facts l.facts l.register
