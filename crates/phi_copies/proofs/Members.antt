-- What a list has.
use Rattle.std.proofs.Common.{◌≡◌, ◌⊎◌, inl, inr, ℕ, zero, suc, ◌<◌, List, [], ◌∷◌, ◌++◌, length, map, get_or, All, Any, refl, sym, ap, subst, arith, AllPairs, slice_get, Some, flat_map}
use Rattle.std.proofs.lemmas.List.Elements.{All-head, All-tail, All-nil, All-cons}

abbrev pub Among : {A : Type 0} → A → List A → Type 0
Among x [] = ⊥
Among x (y ∷ xs) = (x ≡ y) ⊎ Among x xs

pub among_all : {A : Type 0} (P : A → Type 0) (xs : List A) (x : A) → All P xs → Among x xs → P x
among_all P [] x h a = absurd a
among_all P (y ∷ xs) x h (inl e) = subst P (sym e) (All-head P y xs h)
among_all P (y ∷ xs) x h (inr a) = among_all P xs x (All-tail P y xs h) a

pub all_among : {A : Type 0} (P : A → Type 0) (xs : List A) → ((x : A) → Among x xs → P x) → All P xs
all_among P [] h = All-nil P
all_among P (x ∷ xs) h = All-cons P x xs (h x (inl refl)) (all_among P xs (λ y a. h y (inr a)))

pub among_place : {A : Type 0} (xs : List A) (k : ℕ) (x : A) → k < length xs → get_or xs k x ≡ x → Among x xs
among_place [] k x l e = absurd (omega (arith, l))
among_place (y ∷ xs) zero x l e = inl (sym e)
among_place (y ∷ xs) (suc k) x l e = inr (among_place xs k x (omega (arith, l)) e)

-- what is true of one of them
pub record Some1 {A : Type 0} (P : A → Type 0) (xs : List A) : Type 0 where
  pub item : A
  pub there : Among item xs
  pub holds : P item

pub one_of : {A : Type 0} (P : A → Type 0) (xs : List A) → Any P xs → Some1 P xs
one_of P xs h = record { item = h.1; there = among_place xs h.0 h.1 h.2 h.3; holds = h.4 }

pub any_of : {A : Type 0} (P : A → Type 0) (xs : List A) (x : A) → Among x xs → P x → Any P xs
any_of P [] x a h = absurd a
any_of P (y ∷ xs) x (inl e) h = (0, y, omega arith, refl, subst P e h)
any_of P (y ∷ xs) x (inr a) h = let r = any_of P xs x a h in let l = r.2 in (suc r.0, r.1, omega (arith, l), r.3, r.4)

pub among_get : {A : Type 0} (xs : List A) (n : ℕ) (x : A) → slice_get xs n ≡ Some x → Among x xs
among_get [] n x e = absurd (let no : ⊥ = cc in no)
among_get (y ∷ xs) zero x e = inl (let same : x ≡ y = cc in same)
among_get (y ∷ xs) (suc n) x e = inr (among_get xs n x e)

-- each with all behind it
abbrev pub Apart : {A : Type 0} → (A → A → Type 0) → List A → Type 0
Apart R [] = Unit {0}
Apart R (x ∷ xs) = ((y : _) → Among y xs → R x y) × Apart R xs

among_at : {A : Type 0} (xs : List A) (k : ℕ) (d : A) → k < length xs → Among (get_or xs k d) xs
among_at [] k d l = absurd (omega (arith, l))
among_at (x ∷ xs) zero d l = inl refl
among_at (x ∷ xs) (suc k) d l = inr (among_at xs k d (omega (arith, l)))

pub all_pairs : {A : Type 0} (R : A → A → Type 0) (xs : List A) → Apart R xs → AllPairs R xs
all_pairs R [] h i j d l m = absurd (omega (arith, m))
all_pairs R (x ∷ xs) h zero zero d l m = absurd (omega (arith, l))
all_pairs R (x ∷ xs) h zero (suc j) d l m = h.0 (get_or xs j d) (among_at xs j d (omega (arith, m)))
all_pairs R (x ∷ xs) h (suc i) zero d l m = absurd (omega (arith, l))
all_pairs R (x ∷ xs) h (suc i) (suc j) d l m = all_pairs R xs h.1 i j d (omega (arith, l)) (omega (arith, m))

-- ---- lists put together

pub among_left : {A : Type 0} (x : A) (xs ys : List A) → Among x xs → Among x (xs ++ ys)
among_left x [] ys h = absurd h
among_left x (y ∷ xs) ys (inl e) = inl e
among_left x (y ∷ xs) ys (inr h) = inr (among_left x xs ys h)

pub among_right : {A : Type 0} (x : A) (xs ys : List A) → Among x ys → Among x (xs ++ ys)
among_right x [] ys h = h
among_right x (y ∷ xs) ys h = inr (among_right x xs ys h)

pub flat_among : {A B : Type 0} (g : A → List B) (xs : List A) (x : A) (y : B) → Among x xs → Among y (g x) → Among y (flat_map g xs)
flat_among g [] x y a h = absurd a
flat_among g (z ∷ xs) x y (inl e) h = among_left y (g z) (flat_map g xs) (subst (λ v. Among y (g v)) e h)
flat_among g (z ∷ xs) x y (inr a) h = among_right y (g z) (flat_map g xs) (flat_among g xs x y a h)

-- what a mapped list has comes from one of the list
pub record Came {A B : Type 0} (g : A → B) (xs : List A) (y : B) : Type 0 where
  pub item : A
  pub there : Among item xs
  pub is : y ≡ g item

pub came : {A B : Type 0} (g : A → B) (xs : List A) (y : B) → Among y (map g xs) → Came g xs y
came g [] y a = absurd a
came g (x ∷ xs) y (inl e) = record { item = x; there = inl refl; is = e }
came g (x ∷ xs) y (inr a) = let r = came g xs y a in record { item = r.item; there = inr r.there; is = r.is }

pub goes_map : {A B : Type 0} (g : A → B) (xs : List A) (x : A) → Among x xs → Among (g x) (map g xs)
goes_map g [] x a = absurd a
goes_map g (y ∷ xs) x (inl e) = inl (ap g e)
goes_map g (y ∷ xs) x (inr a) = inr (goes_map g xs x a)
