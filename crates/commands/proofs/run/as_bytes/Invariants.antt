use Rattle.std.proofs.Common.{◌≡◌, ◌++◌, map, drop, ℕ, List, Bor}
use Rattle.commands.proofs.run.as_bytes.Given as goal

abbrev pub invariant-loop-word : goal.invariant-loop-word
invariant-loop-word l =
    map (λ (w : Bor (List ℕ)). w.now) l.list.items ++ map (λ (w : Bor (List ℕ)). w.now) (drop l.word-index l.words) ≡ map (λ (w : Bor (List ℕ)). w.now) l.fn.words
