-- What parts of a list, and a list with another item, pass and sum up to.
use Rattle.std.proofs.Common.{◌≡◌, ℕ, zero, suc, ◌+◌, ◌<◌, ◌≤◌, Bool, true, false, not, ◌||◌, List, [], ◌∷◌, ◌++◌, map, length, get_or, slice_get, take, drop, Some, refl, ◌∙◌, ap, arith, slice_set}
use Rattle.std.specs.List.{list_all, list_any, sum_by}
use Rattle.std.proofs.lemmas.Bool.{and_parts, and_from, not-true}
use Rattle.std.proofs.lemmas.List.Sums.{sum_by-cons}

-- ---- that all pass

-- an item of a walk
pub all_item : {X : Type 0} (p : X → Bool) (xs : List X) (i : ℕ) (x : X) → list_all p xs ≡ true → i < length xs → x ≡ get_or xs i x → p x ≡ true
all_item p [] i x all low is = absurd (omega arith)
all_item p (y ∷ ys) zero x all low is = ap p is ∙ (and_parts (p y) (list_all p ys) all).0
all_item p (y ∷ ys) (suc i) x all low is = all_item p ys i x (and_parts (p y) (list_all p ys) all).1 (omega arith) is

pub all_taken : {X : Type 0} (p : X → Bool) (n : ℕ) (xs : List X) → list_all p xs ≡ true → list_all p (take n xs) ≡ true
all_taken p zero [] all = refl
all_taken p zero (x ∷ xs) all = refl
all_taken p (suc n) [] all = refl
all_taken p (suc n) (x ∷ xs) all =
    let s = and_parts (p x) (list_all p xs) all in and_from (p x) (list_all p (take n xs)) s.0 (all_taken p n xs s.1)

pub all_left : {X : Type 0} (p : X → Bool) (n : ℕ) (xs : List X) → list_all p xs ≡ true → list_all p (drop n xs) ≡ true
all_left p zero [] all = refl
all_left p zero (x ∷ xs) all = all
all_left p (suc n) [] all = refl
all_left p (suc n) (x ∷ xs) all = all_left p n xs (and_parts (p x) (list_all p xs) all).1

pub all_set : {X : Type 0} (p : X → Bool) (xs : List X) (n : ℕ) (x : X) → list_all p xs ≡ true → p x ≡ true → list_all p (slice_set xs n x) ≡ true
all_set p [] n x all here = refl
all_set p (y ∷ ys) zero x all here = and_from (p x) (list_all p ys) here (and_parts (p y) (list_all p ys) all).1
all_set p (y ∷ ys) (suc n) x all here =
    let s = and_parts (p y) (list_all p ys) all in and_from (p y) (list_all p (slice_set ys n x)) s.0 (all_set p ys n x s.1 here)

-- what passes one test passes the other once it is changed
pub all_changed : {X Y : Type 0} (q : Y → Bool) (p : X → Bool) (h : Y → X) → ((y : Y) → q y ≡ true → p (h y) ≡ true) → (ys : List Y) → list_all q ys ≡ true → list_all p (map h ys) ≡ true
all_changed q p h stays [] all = refl
all_changed q p h stays (y ∷ ys) all =
    let s = and_parts (q y) (list_all q ys) all in and_from (p (h y)) (list_all p (map h ys)) (stays y s.0) (all_changed q p h stays ys s.1)

pub all_weaker : {X : Type 0} (q p : X → Bool) → ((x : X) → q x ≡ true → p x ≡ true) → (xs : List X) → list_all q xs ≡ true → list_all p xs ≡ true
all_weaker q p stays [] all = refl
all_weaker q p stays (x ∷ xs) all =
    let s = and_parts (q x) (list_all q xs) all in and_from (p x) (list_all p xs) (stays x s.0) (all_weaker q p stays xs s.1)

-- ---- sums

pub sum_at : {X : Type 0} (g : X → ℕ) (xs : List X) (n : ℕ) (x : X) → slice_get xs n ≡ Some x → sum_by g (take n xs) + g x + sum_by g (drop (n + 1) xs) ≡ sum_by g xs
sum_at g [] n x at = absurd (let no : ⊥ = cc in no)
sum_at g (y ∷ ys) zero x at =
    let same : y ≡ x = cc in
    let here = ap g same in
    let all = sum_by-cons g y ys in
    let none : sum_by g (take 0 (y ∷ ys)) ≡ 0 = refl in
    let rest : sum_by g (drop (0 + 1) (y ∷ ys)) ≡ sum_by g ys = refl in
    omega (arith, here, all, none, rest)
sum_at g (y ∷ ys) (suc n) x at =
    let on = sum_at g ys n x at in
    let all = sum_by-cons g y ys in
    let up = sum_by-cons g y (take n ys) in
    let same : sum_by g (drop (suc n + 1) (y ∷ ys)) ≡ sum_by g (drop (n + 1) ys) = ap (λ k. sum_by g (drop k (y ∷ ys))) (let e : suc n + 1 ≡ suc (n + 1) = omega arith in e) in
    omega (arith, on, all, up, same)

pub sum_set : {X : Type 0} (g : X → ℕ) (xs : List X) (n : ℕ) (x y : X) → slice_get xs n ≡ Some x → sum_by g (slice_set xs n y) + g x ≡ sum_by g xs + g y
sum_set g [] n x y at = absurd (let no : ⊥ = cc in no)
sum_set g (z ∷ zs) zero x y at =
    let same : z ≡ x = cc in
    let here = ap g same in
    let before = sum_by-cons g z zs in
    let after = sum_by-cons g y zs in
    omega (arith, here, before, after)
sum_set g (z ∷ zs) (suc n) x y at =
    let on = sum_set g zs n x y at in
    let before = sum_by-cons g z zs in
    let after = sum_by-cons g z (slice_set zs n y) in
    omega (arith, on, before, after)

pub sum_changed : {X Y : Type 0} (g : X → ℕ) (f : Y → ℕ) (h : Y → X) → ((y : Y) → g (h y) ≡ f y) → (ys : List Y) → sum_by g (map h ys) ≡ sum_by f ys
sum_changed g f h same [] = refl
sum_changed g f h same (y ∷ ys) =
    let here = same y in
    let on = sum_changed g f h same ys in
    let before = sum_by-cons f y ys in
    let after = sum_by-cons g (h y) (map h ys) in
    omega (arith, here, on, before, after)

-- ---- lengths

pub length_both : {X : Type 0} (xs ys : List X) → length (xs ++ ys) ≡ length xs + length ys
length_both [] ys = let e : length ys ≡ 0 + length ys = omega arith in e
length_both (x ∷ xs) ys = let on = length_both xs ys in omega (arith, on)

pub length_changed : {X Y : Type 0} (h : Y → X) (ys : List Y) → length (map h ys) ≡ length ys
length_changed h [] = refl
length_changed h (y ∷ ys) = ap suc (length_changed h ys)

-- ---- that none passes

none_here : {X : Type 0} (p : X → Bool) (x : X) (xs : List X) → (b : Bool) → p x ≡ b → (b || list_any p xs) ≡ false → (p x ≡ false) × (list_any p xs ≡ false)
none_here p x xs true is h = absurd (let no : ⊥ = cc in no)
none_here p x xs false is h = (is, h)

-- none passes where all fail
pub none_all : {X : Type 0} (p : X → Bool) (xs : List X) → list_any p xs ≡ false → list_all (λ (x : X). not (p x)) xs ≡ true
none_all p [] h = refl
none_all p (x ∷ xs) h = let s = none_here p x xs (p x) refl h in and_from (not (p x)) (list_all (λ y. not (p y)) xs) (ap not s.0) (none_all p xs s.1)

pub all_none : {X : Type 0} (p : X → Bool) (xs : List X) → list_all (λ (x : X). not (p x)) xs ≡ true → list_any p xs ≡ false
all_none p [] h = refl
all_none p (x ∷ xs) h =
    let s = and_parts (not (p x)) (list_all (λ y. not (p y)) xs) h in ap (λ b. b || list_any p xs) (not-true (p x) s.0) ∙ all_none p xs s.1

-- lists of which none passes
pub no_any : {X : Type 0} (p : X → Bool) (xs : List X) → not (list_any p xs) ≡ true → list_any p xs ≡ false
no_any p xs h = not-true (list_any p xs) h

no_rest : {X : Type 0} (m : ℕ) → drop m (let none : List X = [] in none) ≡ []
no_rest zero = refl
no_rest (suc m) = refl

-- of which none passes from one on, none does from a later one on
pub none_later : {X : Type 0} (p : X → Bool) (n m : ℕ) (xs : List X) → n ≤ m → list_any p (drop n xs) ≡ false → list_any p (drop m xs) ≡ false
none_later p n m [] le h = ap (λ ys. list_any p ys) (no_rest m)
none_later p zero zero (x ∷ xs) le h = h
none_later p zero (suc m) (x ∷ xs) le h = none_later p zero m xs (omega arith) (none_here p x xs (p x) refl h).1
none_later p (suc n) zero (x ∷ xs) le h = absurd (omega (arith, le))
none_later p (suc n) (suc m) (x ∷ xs) le h = none_later p n m xs (omega (arith, le)) h

-- ---- items
