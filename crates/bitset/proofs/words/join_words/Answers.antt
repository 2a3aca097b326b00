use Rattle.std.proofs.Common.{rules}
use Rattle.bitset.proofs.words.join_words.Goals as goal

pub returns-then-first-clause-changed : goal.returns-then-first-clause-changed
returns-then-first-clause-changed c = search rules

pub returns-else-first-clause-changed : goal.returns-else-first-clause-changed
returns-else-first-clause-changed c = search rules

pub returns-then-first-clause-union : goal.returns-then-first-clause-union
returns-then-first-clause-union c = search rules

pub returns-else-first-clause-union : goal.returns-else-first-clause-union
returns-else-first-clause-union c = search rules
