-- A list with others written over it, one after another.
use Rattle.std.specs.Prelude.{ℕ, ◌+◌, List, [], ◌∷◌, slice_set}

abbrev pub written : {A : Type 0} → ℕ → List A → List A → List A
written to [] items = items
written to (x ∷ xs) items = written (to + 1) xs (slice_set items to x)
