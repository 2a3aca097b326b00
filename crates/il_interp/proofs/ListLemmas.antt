-- Lists: what is found one by one, and what stands in a mapped list.
use Rattle.std.proofs.Common.{◌≡◌, ℕ, zero, suc, map, refl, List, [], ◌∷◌, ◌++◌, slice_get, Option, Some, None, option_map}

pub mapped : {A B : Type 0} (f : A → B) (xs : List A) (i : ℕ) → slice_get (map f xs) i ≡ option_map f (slice_get xs i)
mapped f [] i = refl
mapped f (x ∷ xs) zero = refl
mapped f (x ∷ xs) (suc i) = mapped f xs i

-- ---- values found one by one, or none where one is missing

abbrev pub found_then : {A : Type 0} → List A → Option (List A) → Option (List A)
found_then found None = None
found_then found (Some rest) = Some (found ++ rest)
