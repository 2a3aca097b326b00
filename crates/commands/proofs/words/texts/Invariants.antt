use Rattle.std.proofs.Common.{◌≡◌, ℕ, List, Bor, map, take, string_bytes}
use Rattle.commands.proofs.words.texts.Given as goal

abbrev pub invariant-loop-text : goal.invariant-loop-text
invariant-loop-text l = map (λ (t : Bor (List ℕ)). t.now) l.texts.items ≡ map string_bytes (take l.text-index l.list)
