-- The first place that breaks a rule, found from front to back.
use Rattle.std.proofs.Common.{◌≡◌, ℕ, zero, suc, ◌+◌, ◌<◌, Bool, false, List, [], ◌∷◌, length, drop, get_or, refl, ap, sym, ◌∙◌, arith, ◌&&◌, Option}
use Rattle.std.specs.List.{list_all}
use Rattle.il_types.specs.Prelude.{or_else, first}

pub first_same : {X : Type 0} (f g : X → Option ℕ) → ((x : X) → f x ≡ g x) → (xs : List X) → first f xs ≡ first g xs
first_same f g h [] = refl
first_same f g h (x ∷ xs) = ap (λ o. or_else o (first f xs)) (h x) ∙ ap (or_else (g x)) (first_same f g h xs)

-- one place further
pub first_drop : {X : Type 0} (f : X → Option ℕ) (xs : List X) (i : ℕ) (d : X) → i < length xs → first f (drop i xs) ≡ or_else (f (get_or xs i d)) (first f (drop (i + 1) xs))
first_drop f [] i d lt = absurd (omega arith)
first_drop f (x ∷ xs) zero d lt = refl
first_drop f (x ∷ xs) (suc i) d lt = let e : suc i + 1 ≡ suc (i + 1) = omega arith in rw e (first_drop f xs i d (omega arith))

-- a test that fails at one place
pub all_stops : {X : Type 0} (f : X → Bool) (xs : List X) (i : ℕ) (d : X) (goal : Bool) → i < length xs → f (get_or xs i d) ≡ false → list_all f (drop i xs) ≡ goal → false ≡ goal
all_stops f [] i d goal lt h e = absurd (omega arith)
all_stops f (x ∷ xs) zero d goal lt h e = ap (λ b. b && list_all f xs) (sym h) ∙ e
all_stops f (x ∷ xs) (suc i) d goal lt h e = all_stops f xs i d goal (omega arith) h e
