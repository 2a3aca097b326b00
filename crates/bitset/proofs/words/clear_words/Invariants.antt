use Rattle.bitset.specs.Words.{MinusBelow}
use Rattle.bitset.proofs.words.clear_words.Given as goal

abbrev pub invariant-loop-k : goal.invariant-loop-k
invariant-loop-k l = MinusBelow l.k l.other l.fn.words l.words
