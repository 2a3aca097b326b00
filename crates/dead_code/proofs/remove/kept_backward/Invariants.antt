use Rattle.std.proofs.Common.{◌≡◌, drop, reverse}
use Rattle.bitset.specs.Bits.{is_member}
use Rattle.dead_code.specs.Without.{wanted_at, kept_lines}
use Rattle.dead_code.proofs.remove.kept_backward.Given as goal

abbrev pub invariant-loop-k : goal.invariant-loop-k
invariant-loop-k l =
    record {
      length : l.set.length ≡ l.fn.set.length;
      lines : l.kept.items ≡ reverse (kept_lines (is_member l.fn.set) (drop l.k l.lines));
      wanted : is_member l.set ≡ wanted_at (is_member l.fn.set) (drop l.k l.lines);
    }
