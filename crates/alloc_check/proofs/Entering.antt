-- Where parameters are, and those that the certificate has no place for.
use Rattle.std.proofs.Common.{◌≡◌, ℕ, zero, suc, ◌≤◌, Bool, true, false, nat_le, if◌then◌else◌, List, [], ◌∷◌, length, drop, Option, Some, refl, sym, ap, ◌∙◌, arith}
use Rattle.std.proofs.lemmas.Bool.Decides.{nat_tests}
use Rattle.vcode.specs.declared.place.Location.{Location}
use Rattle.vcode.specs.declared.place.Destination.{Destination}
use Rattle.vcode.specs.Prelude.{same_location}
use Rattle.alloc_check.specs.Prelude.{Owners, other_than, own_put, certified_params, own_params, params_placed, owner_put}

abbrev no_places : List Location
no_places = []

drop_none : (k : ℕ) → drop k no_places ≡ no_places
drop_none zero = refl
drop_none (suc k) = refl

-- a parameter without a place, and those behind it, are put nowhere
pub too_few : (ds : List (Destination ℕ)) (qs : List Location) (k : ℕ) (own : Owners) → length qs ≤ k → own_params (drop k ds) (drop k qs) own ≡ own
too_few [] qs zero own h = refl
too_few [] [] (suc k) own h = refl
too_few [] (q ∷ qs) (suc k) own h = refl
too_few (d ∷ ds) [] zero own h = refl
too_few (d ∷ ds) (q ∷ qs) zero own h = absurd (omega arith)
too_few (d ∷ ds) [] (suc k) own h = ap (λ (qs : List Location). own_params (drop k ds) qs own) (drop_none (suc k) ∙ sym (drop_none k)) ∙ too_few ds [] k own (omega arith)
too_few (d ∷ ds) (q ∷ qs) (suc k) own h = too_few ds qs k own (omega arith)

pub enough_placed : (ds : List (Destination ℕ)) (qs : List Location) → nat_le (length ds) (length qs) ≡ params_placed ds qs
enough_placed [] qs = grind (arith, nat_tests)
enough_placed (d ∷ ds) [] = grind (arith, nat_tests)
enough_placed (d ∷ ds) (q ∷ qs) = by (nat_le (length ds) (length qs)) refl ∙ enough_placed ds qs
  where
    by : (b : Bool) → nat_le (length ds) (length qs) ≡ b → nat_le (suc (length ds)) (suc (length qs)) ≡ b
    by true h = grind (arith, nat_tests)
    by false h = grind (arith, nat_tests)

-- whose value one place holds, by whose it held
abbrev pub owner_from : List (Destination ℕ) → List Location → Location → Option ℕ → Option ℕ
owner_from [] qs at o = o
owner_from (d ∷ ds) [] at o = o
owner_from (d ∷ ds) (q ∷ qs) at o = owner_from ds qs at (owner_put (same_location at q) d.place o)

put_at : (b : Bool) (r : ℕ) (o : Option ℕ) → (if b then Some r else other_than r o) ≡ owner_put b r o
put_at true r o = refl
put_at false r o = refl

pub owner_is : (ds : List (Destination ℕ)) (qs : List Location) (own : Owners) (at : Location) → own_params ds qs own at ≡ owner_from ds qs at (own at)
owner_is [] qs own at = refl
owner_is (d ∷ ds) [] own at = refl
owner_is (d ∷ ds) (q ∷ qs) own at = owner_is ds qs (own_put q d.place own) at ∙ ap (owner_from ds qs at) (put_at (same_location at q) d.place (own at))

pub none_from : (ds : List (Destination ℕ)) (qs : List Location) (k : ℕ) (at : Location) (o : Option ℕ) → length qs ≤ k → owner_from (drop k ds) (drop k qs) at o ≡ o
none_from ds qs k at o h = sym (owner_is (drop k ds) (drop k qs) (λ q. o) at) ∙ ap (λ (own : Owners). own at) (too_few ds qs k (λ q. o) h)

pub no_more : (ds : List (Destination ℕ)) (qs : List Location) (k : ℕ) → length qs ≤ k → certified_params (drop k ds) (drop k qs) ≡ []
no_more [] qs zero h = refl
no_more [] [] (suc k) h = refl
no_more [] (q ∷ qs) (suc k) h = refl
no_more (d ∷ ds) [] zero h = refl
no_more (d ∷ ds) (q ∷ qs) zero h = absurd (omega arith)
no_more (d ∷ ds) [] (suc k) h = ap (λ (qs : List Location). certified_params (drop k ds) qs) (drop_none (suc k) ∙ sym (drop_none k)) ∙ no_more ds [] k (omega arith)
no_more (d ∷ ds) (q ∷ qs) (suc k) h = no_more ds qs k (omega arith)
