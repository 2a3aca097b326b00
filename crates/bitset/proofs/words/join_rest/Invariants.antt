use Rattle.bitset.specs.Words.{ChangedIn, UnionIn}
use Rattle.bitset.proofs.words.join_rest.Given as goal

abbrev pub invariant-loop-at : goal.invariant-loop-at
invariant-loop-at l = UnionIn l.from l.at l.other l.fn.words l.words × ChangedIn l.from l.at l.fn.words l.words l.changed
