use Rattle.std.proofs.Common.{◌≡◌, ℕ, ◌+◌, ◌<◌, nat_lt, if◌then◌else◌, length, get_or, All}
use Rattle.phi_copies.specs.declared.moves.Move.{Move}
use Rattle.bench.proofs.moves.cycle.Given as goal

abbrev pub invariant-loop-to : goal.invariant-loop-to
invariant-loop-to l =
    record {
      many : length l.moves.items ≡ l.to;
      numbered : (k : ℕ) (d : Move) → k < length l.moves.items → (get_or l.moves.items k d).to ≡ k;
      before : All (λ m. m.from ≡ (if nat_lt (m.to + 1) l.count then m.to + 1 else 0)) l.moves.items;
      inside : All (λ m. (m.to < l.count) × (m.from < l.count)) l.moves.items;
    }
