use Rattle.std.proofs.Common.{◌≡◌, ◌++◌, map, take, ℕ, List, Some}
use Rattle.il_ast.specs.Prelude.{word_cells}
use Rattle.il_interp.proofs.start.add_words.Given as goal

abbrev pub invariant-loop-word : goal.invariant-loop-word
invariant-loop-word l = l.memory ≡ l.fn.memory ++ map (λ (w : List ℕ). Some (word_cells w)) (map (λ w. w.now) (take l.word-index l.words))
