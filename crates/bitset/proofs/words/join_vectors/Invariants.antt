use Rattle.std.proofs.Common.{◌*◌}
use Rattle.bitset.specs.Words.{ChangedIn, UnionIn}
use Rattle.bitset.proofs.words.join_vectors.Given as goal

abbrev pub invariant-loop-i : goal.invariant-loop-i
invariant-loop-i l = UnionIn 0 (8 * l.i) l.other l.fn.words l.words × ChangedIn 0 (8 * l.i) l.fn.words l.words l.changed
