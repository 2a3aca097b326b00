-- Lists of places that there are.
use Rattle.std.proofs.Common.{◌≡◌, ℕ, zero, suc, ◌≤◌, Bool, true, List, [], ◌∷◌, slice_set, refl, ◌∙◌, arith}
use Rattle.std.specs.List.{list_all}
use Rattle.std.proofs.lemmas.Bool.{and_parts, and_from}
use Rattle.std.proofs.lemmas.Bool.Decides.{nat_tests}
use Rattle.std.proofs.lemmas.List.Folds.{list_all-append}
use Rattle.vcode.specs.declared.place.Location.TheVariants.{Slot}
use Rattle.vcode.specs.Prelude.{is_place}
use Rattle.certificates.specs.Listed.{slots}

-- one element is changed
pub all_with : {X : Type 0} (p : X → Bool) (xs : List X) (i : ℕ) (x : X) → p x ≡ true → list_all p xs ≡ true → list_all p (slice_set xs i x) ≡ true
all_with p [] i x good all = refl
all_with p (y ∷ xs) zero x good all = and_from (p x) (list_all p xs) good (and_parts (p y) (list_all p xs) all).1
all_with p (y ∷ xs) (suc i) x good all =
    let parts = and_parts (p y) (list_all p xs) all in
    and_from (p y) (list_all p (slice_set xs i x)) parts.0 (all_with p xs i x good parts.1)

is_low : (n m : ℕ) → suc n ≤ m → is_place m (Slot n) ≡ true
is_low n m low = grind (arith, nat_tests)

low_slots : (n m : ℕ) → n ≤ m → list_all (is_place m) (slots n) ≡ true
low_slots zero m low = refl
low_slots (suc n) m low =
    list_all-append (is_place m) (slots n) (Slot n ∷ [])
    ∙ and_from (list_all (is_place m) (slots n)) (list_all (is_place m) (Slot n ∷ [])) (low_slots n m (omega arith)) (and_from (is_place m (Slot n)) true (is_low n m low) refl)

pub slots_stand : (n : ℕ) → list_all (is_place n) (slots n) ≡ true
slots_stand n = low_slots n n (omega arith)
