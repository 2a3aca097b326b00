use Rattle.std.specs.Prelude.{◌≡◌, ◌≤◌, ◌+◌, ◌-◌, length, map, drop}
use Rattle.command_line.specs.Asked.{dashes_at}
use Rattle.command_line.proofs.dashes_at.Given as goal

-- none of the words so far is it
abbrev pub invariant-loop-at : goal.invariant-loop-at
invariant-loop-at l = record {
  within : l.at ≤ length l.words;
  same : dashes_at (map (λ w. w.now) l.words) ≡ l.at + dashes_at (map (λ w. w.now) (drop l.at l.words));
}

abbrev pub decreases-loop-at : goal.decreases-loop-at
decreases-loop-at l = length l.words - l.at
