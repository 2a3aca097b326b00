-- What holds of two lists of equalities, one behind the other.
use Rattle.std.proofs.Common.{◌≡◌, ℕ, zero, suc, ◌+◌, ◌<◌, Bool, true, false, not, ◌&&◌, ◌||◌, nat_lt, if◌then◌else◌, List, [], ◌∷◌, ◌++◌, length, drop, slice_index_or, Option, Some, refl, sym, ◌∙◌, ap, subst, arith}
use Rattle.std.specs.List.{list_all}
use Rattle.std.specs.Option.{option_map_or}
use Rattle.std.proofs.lemmas.Bool.Decides.{nat_tests}
use Rattle.std.proofs.lemmas.Bool.{and_parts}
use Rattle.std.proofs.lemmas.List.Folds.{list_all-append}
use Rattle.alloc_check.specs.Prelude.{Owners, own_also, known, stand_also, standing, all_hold, owns, is_param, entry_holds, exists_in}
use Rattle.vcode.specs.declared.place.Destination.{Destination}
use Rattle.vcode.specs.declared.place.Location.{Location}
use Rattle.vcode.specs.Prelude.{is_place, same_location}
use Rattle.certificates.specs.declared.certificate.Equality.{Equality}

pub both_hold : (own : Owners) (xs ys : List Equality) → all_hold own (xs ++ ys) ≡ (all_hold own xs && all_hold own ys)
both_hold own xs ys = list_all-append (λ (e : Equality). owns own e.place e.register) xs ys

pub both_enter : (ds : List (Destination ℕ)) (xs ys : List Equality) (own : Owners) → entry_holds ds (xs ++ ys) own ≡ (entry_holds ds xs own && entry_holds ds ys own)
both_enter ds xs ys own = list_all-append (λ (e : Equality). owns own e.place e.register || not (is_param ds e.register)) xs ys

-- what is known of registers that there are is of such
pub known_low : (n : ℕ) (es : List Equality) (own : Owners) → list_all (exists_in n) es ≡ true → ((q : Location) (r : ℕ) → own q ≡ Some r → r < n)
    → (q : Location) (r : ℕ) → known es own q ≡ Some r → r < n
known_low n [] own exist low q r is = low q r is
known_low n (e ∷ es) own exist low q r is =
    let s = and_parts (exists_in n e) (list_all (exists_in n) es) exist in
    let t = and_parts (is_place n e.place) (nat_lt e.register n) s.0 in
    known_low n es (own_also e own) s.1 (λ p k h. by t.1 p k (same_location p e.place) h) q r is
  where
    by : nat_lt e.register n ≡ true → (p : Location) (k : ℕ) (b : Bool) → (if b then Some e.register else own p) ≡ Some k → k < n
    by here p k true h =
        let same : e.register ≡ k = ap (λ (o : Option ℕ). option_map_or (λ x. x) o e.register) h in
        subst (λ i. i < n) same (let below : e.register < n = grind (arith, nat_tests) in below)
    by here p k false h = low p k h

-- ---- one item after another

index_next : {X : Type 0} (xs : List X) (i : ℕ) (d : X) → i < length xs → drop i xs ≡ slice_index_or xs i d ∷ drop (i + 1) xs
index_next [] i d low = absurd (omega arith)
index_next (y ∷ ys) zero d low = refl
index_next (y ∷ ys) (suc i) d low = index_next ys i d (omega arith) ∙ ap (λ k. slice_index_or ys i d ∷ drop k (y ∷ ys)) (let f : suc (i + 1) ≡ suc i + 1 = omega arith in f)

pub known_next : (es : List Equality) (i : ℕ) (d : Equality) (old new whole : Owners) → i < length es → new ≡ own_also (slice_index_or es i d) old → known (drop i es) old ≡ whole → known (drop (i + 1) es) new ≡ whole
known_next es i d old new whole low is before = ap (known (drop (i + 1) es)) is ∙ sym (ap (λ (xs : List Equality). known xs old) (index_next es i d low)) ∙ before

pub standing_next : (es : List Equality) (i : ℕ) (d : Equality) (old new whole : ℕ → Option Location) → i < length es → new ≡ stand_also (slice_index_or es i d) old → standing (drop i es) old ≡ whole
    → standing (drop (i + 1) es) new ≡ whole
standing_next es i d old new whole low is before = ap (standing (drop (i + 1) es)) is ∙ sym (ap (λ (xs : List Equality). standing xs old) (index_next es i d low)) ∙ before

pub every_next : {X : Type 0} (test : X → Bool) (xs : List X) (i : ℕ) → i < length xs → list_all test (drop i xs) ≡ true → list_all test (drop (i + 1) xs) ≡ true
every_next test [] i low h = absurd (omega arith)
every_next test (y ∷ ys) zero low h = (and_parts (test y) (list_all test ys) h).1
every_next test (y ∷ ys) (suc i) low h = ap (λ k. list_all test (drop k (y ∷ ys))) (let f : suc i + 1 ≡ suc (i + 1) = omega arith in f) ∙ every_next test ys i (omega arith) h
