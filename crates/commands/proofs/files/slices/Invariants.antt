use Rattle.std.proofs.Common.{◌≡◌, ℕ, List, Bor, map, take}
use Rattle.commands.proofs.files.slices.Given as goal

abbrev pub invariant-loop-text : goal.invariant-loop-text
invariant-loop-text l = map (λ (t : Bor (List ℕ)). t.now) l.slices.items ≡ map (λ t. t.items) (take l.text-index l.texts)
