-- The elements of a list at their places: of lists put together, changed at a place, mapped, cut.
use Rattle.std.proofs.Common.{◌≡◌, ◌≢◌, ℕ, zero, suc, ◌+◌, ◌<◌, ◌≤◌, Bool, true, false, nat_eq, ◌&&◌, ◌||◌, List, [], ◌∷◌, ◌++◌, length, get_or, take, drop, map, Some, refl, sym, ◌∙◌, ap, arith, append_assoc, slice_get, slice_set}
use Rattle.std.specs.List.{list_all, list_any}
use Rattle.std.proofs.lemmas.Bool.Decides.{nat_tests}
use Rattle.std.proofs.lemmas.Bool.{and_parts, and_from, eqb-false}
use Rattle.std.proofs.lemmas.List.Folds.{list_all-append}
use Rattle.std.proofs.lemmas.Option.{same_Some, none-some, slice_get-get_or}

-- ---- each and some

pub all_at : {A : Type 0} (test : A → Bool) (xs : List A) (k : ℕ) (x : A) → list_all test xs ≡ true → slice_get xs k ≡ Some x → test x ≡ true
all_at test [] k x h at = absurd (none-some x at)
all_at test (y ∷ xs) zero x h at = ap test (sym (same_Some y x at)) ∙ (and_parts (test y) (list_all test xs) h).0
all_at test (y ∷ xs) (suc k) x h at = all_at test xs k x (and_parts (test y) (list_all test xs) h).1 at

pub all_append : {A : Type 0} (test : A → Bool) (xs ys : List A) → list_all test xs ≡ true → list_all test ys ≡ true → list_all test (xs ++ ys) ≡ true
all_append test xs ys a b = list_all-append test xs ys ∙ and_from (list_all test xs) (list_all test ys) a b

pub any_at : {A : Type 0} (test : A → Bool) (xs : List A) (k : ℕ) (x : A) → slice_get xs k ≡ Some x → test x ≡ true → list_any test xs ≡ true
any_at test [] k x at h = absurd (none-some x at)
any_at test (y ∷ xs) zero x at h = ap (λ b. b || list_any test xs) (ap test (same_Some y x at) ∙ h)
any_at test (y ∷ xs) (suc k) x at h = either (test y) (list_any test xs) (any_at test xs k x at h)
  where
    either : (a b : Bool) → b ≡ true → (a || b) ≡ true
    either true b e = refl
    either false b e = e

-- ---- lists put together

pub append_one : {A : Type 0} (xs : List A) (x : A) (ys : List A) → (xs ++ x ∷ []) ++ ys ≡ xs ++ x ∷ ys
append_one xs x ys = append_assoc xs (x ∷ []) ys

pub get_before : {A : Type 0} (xs ys : List A) (k : ℕ) (x : A) → slice_get xs k ≡ Some x → slice_get (xs ++ ys) k ≡ Some x
get_before [] ys k x h = absurd (none-some x h)
get_before (y ∷ xs) ys zero x h = h
get_before (y ∷ xs) ys (suc k) x h = get_before xs ys k x h

pub get_behind : {A : Type 0} (xs ys : List A) (k : ℕ) → slice_get (xs ++ ys) (length xs + k) ≡ slice_get ys k
get_behind [] ys k = let same : 0 + k ≡ k = omega arith in ap (slice_get ys) same
get_behind (x ∷ xs) ys k =
    let same : suc (length xs) + k ≡ suc (length xs + k) = omega arith in ap (slice_get (x ∷ (xs ++ ys))) same ∙ get_behind xs ys k

-- ---- a list changed at a place

pub length_slice_set : {A : Type 0} (xs : List A) (k : ℕ) (x : A) → length (slice_set xs k x) ≡ length xs
length_slice_set [] k x = refl
length_slice_set (y ∷ xs) zero x = refl
length_slice_set (y ∷ xs) (suc k) x = ap suc (length_slice_set xs k x)

pub get_set_same : {A : Type 0} (xs : List A) (k : ℕ) (x : A) → k < length xs → slice_get (slice_set xs k x) k ≡ Some x
get_set_same [] k x low = absurd (omega arith)
get_set_same (y ∷ xs) zero x low = refl
get_set_same (y ∷ xs) (suc k) x low = get_set_same xs k x (omega arith)

pub get_set_apart : {A : Type 0} (xs : List A) (i j : ℕ) (x : A) → j ≢ i → slice_get (slice_set xs i x) j ≡ slice_get xs j
get_set_apart [] i j x differ = refl
get_set_apart (y ∷ xs) zero zero x differ = absurd (differ refl)
get_set_apart (y ∷ xs) zero (suc j) x differ = refl
get_set_apart (y ∷ xs) (suc i) zero x differ = refl
get_set_apart (y ∷ xs) (suc i) (suc j) x differ = get_set_apart xs i j x (omega arith)

pub get_set_other : {A : Type 0} (xs : List A) (i j : ℕ) (x : A) → nat_eq j i ≡ false → slice_get (slice_set xs i x) j ≡ slice_get xs j
get_set_other xs i j x h = get_set_apart xs i j x (eqb-false j i h)

-- ---- what stands at a place

pub get_below : {A : Type 0} (xs : List A) (k : ℕ) → k < length xs → (x : A) × (slice_get xs k ≡ Some x)
get_below [] k h = absurd (omega arith)
get_below (x ∷ xs) zero h = (x, refl)
get_below (x ∷ xs) (suc k) h = get_below xs k (omega arith)

pub get_there : {A : Type 0} (xs : List A) (k : ℕ) (x : A) → k < length xs → x ≡ get_or xs k x → slice_get xs k ≡ Some x
get_there xs k x low at = slice_get-get_or xs k x low ∙ ap Some (sym at)

pub get_mapped : {A B : Type 0} (f : A → B) (xs : List A) (k : ℕ) (x : A) → slice_get xs k ≡ Some x → slice_get (map f xs) k ≡ Some (f x)
get_mapped f [] k x h = absurd (none-some x h)
get_mapped f (y ∷ xs) zero x h = ap (λ z. Some (f z)) (same_Some y x h)
get_mapped f (y ∷ xs) (suc k) x h = get_mapped f xs k x h

-- ---- a list cut

pub length_take : {A : Type 0} (n : ℕ) (xs : List A) → n ≤ length xs → length (take n xs) ≡ n
length_take zero xs h = refl
length_take (suc n) [] h = absurd (omega arith)
length_take (suc n) (y ∷ xs) h = ap suc (length_take n xs (omega arith))

pub drop_at : {A : Type 0} (xs : List A) (k : ℕ) (x : A) → slice_get xs k ≡ Some x → drop k xs ≡ x ∷ drop (k + 1) xs
drop_at [] k x h = absurd (none-some x h)
drop_at (y ∷ xs) zero x h = ap (λ z. z ∷ xs) (same_Some y x h)
drop_at (y ∷ xs) (suc k) x h = let e : suc k + 1 ≡ suc (k + 1) = omega arith in rw e (drop_at xs k x h)
