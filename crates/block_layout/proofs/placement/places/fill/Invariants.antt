use Rattle.std.proofs.Common.{◌≡◌, ℕ, ◌+◌, true, length, drop}
use Rattle.block_layout.specs.Ordered.{place_in, kept_place, names_blocks}
use Rattle.block_layout.proofs.placement.places.fill.Given as goal

abbrev pub invariant-loop-i : goal.invariant-loop-i
invariant-loop-i l =
    record {
      places : (k : ℕ) → kept_place l.order l.places k ≡ l.i + place_in (drop l.i l.order) k;
      named : names_blocks (drop l.i l.order) (length l.fn.places) ≡ true;
    }
