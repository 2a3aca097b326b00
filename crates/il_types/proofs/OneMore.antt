-- One more element: what loops over lists keep, from before it to after it.
use Rattle.std.proofs.Common.{◌≡◌, ℕ, ◌+◌, ◌<◌, Bool, true, false, List, [], ◌∷◌, ◌++◌, length, take, drop, map, get_or, refl, ap, sym, ◌∙◌, Option, None, ◌||◌}
use Rattle.std.specs.List.{flat_map, list_any}
use Rattle.std.proofs.lemmas.List.{take_more, drop_more, map_more, flat_map_more}
use Rattle.std.proofs.lemmas.List.Folds.{list_any_more}
use Rattle.il_types.specs.Prelude.{or_else, first}

pub map_on : {X Y : Type 0} (f : X → Y) (xs : List X) (i : ℕ) (x : X) (y : Y) (found more : List Y) → i < length xs → x ≡ get_or xs i x → y ≡ f x → found ≡ map f (take i xs) → more ≡ found ++ y ∷ []
    → more ≡ map f (take (i + 1) xs)
map_on f xs i x y found more lt is gives so_far added =
    added ∙ (ap (λ ys. ys ++ y ∷ []) so_far ∙ (ap (λ z. map f (take i xs) ++ z ∷ []) (gives ∙ ap f is) ∙ sym (map_more f xs i x lt)))

pub flat_on : {X Y : Type 0} (f : X → List Y) (xs : List X) (i : ℕ) (x : X) (found more : List Y) → i < length xs → x ≡ get_or xs i x → found ≡ flat_map f (take i xs) → more ≡ found ++ f x
    → more ≡ flat_map f (take (i + 1) xs)
flat_on f xs i x found more lt is so_far added =
    added ∙ (ap (λ ys. ys ++ f x) so_far ∙ (flat_map_more f [] (take i xs) x ∙ sym (ap (flat_map f) (take_more xs i x lt ∙ ap (λ y. take i xs ++ y ∷ []) (sym is)))))

or_either : (a b : Bool) → (a || b) ≡ (b || a)
or_either true true = refl
or_either true false = refl
or_either false true = refl
or_either false false = refl

pub any_on : {X : Type 0} (p : X → Bool) (xs : List X) (i : ℕ) (x : X) (b found more : Bool) → i < length xs → x ≡ get_or xs i x → b ≡ p x → found ≡ list_any p (take i xs) → more ≡ (b || found)
    → more ≡ list_any p (take (i + 1) xs)
any_on p xs i x b found more lt is tests so_far added =
    added ∙ (or_either b found ∙ (ap (λ c. c || b) so_far ∙ (ap (λ c. list_any p (take i xs) || c) (tests ∙ ap p is) ∙ sym (list_any_more p xs i x lt))))

-- an element for which there is nothing
pub first_on : {X : Type 0} (f : X → Option ℕ) (xs : List X) (i : ℕ) (x : X) (whole : Option ℕ) → i < length xs → x ≡ get_or xs i x → f x ≡ None → first f (drop i xs) ≡ whole → first f (drop (i + 1) xs) ≡ whole
first_on f xs i x whole lt is none so_far =
    sym (ap (first f) (drop_more xs i x lt ∙ ap (λ y. y ∷ drop (i + 1) xs) (sym is)) ∙ ap (λ o. or_else o (first f (drop (i + 1) xs))) none) ∙ so_far
