-- Sums over lists, and how often a label is named.
use Rattle.std.proofs.Common.{◌≡◌, ◌⊎◌, inl, inr, ℕ, ◌+◌, ◌≤◌, Bool, true, false, cond, List, [], ◌∷◌, ◌++◌, length, refl, sym, ◌∙◌, ap, arith, sum_by, count_by}
use Rattle.std.proofs.lemmas.List.Sums.{sum_by-cons}
use Rattle.phi_copies.proofs.Members.{Among}

abbrev pub total : {X : Type 0} → (X → ℕ) → List X → ℕ
total f [] = 0
total f (x ∷ xs) = f x + total f xs

abbrev pub one : Bool → ℕ
one b = cond b 1 0

pub sum_total : {X : Type 0} (f : X → ℕ) (xs : List X) → sum_by f xs ≡ total f xs
sum_total f [] = refl
sum_total f (x ∷ xs) = sum_by-cons f x xs ∙ ap (λ n. f x + n) (sum_total f xs)

pub count_total : {X : Type 0} (p : X → Bool) (xs : List X) → count_by p xs ≡ total (λ x. one (p x)) xs
count_total p xs = sum_total (λ x. one (p x)) xs

total_zero : {X : Type 0} (xs : List X) → total (λ (x : X). 0) xs ≡ 0
total_zero [] = refl
total_zero (x ∷ xs) = let rest = total_zero xs in omega (arith, rest)

pub total_plus : {X : Type 0} (f g : X → ℕ) (xs : List X) → total (λ x. f x + g x) xs ≡ total f xs + total g xs
total_plus f g [] = omega arith
total_plus f g (x ∷ xs) = let rest = total_plus f g xs in omega (arith, rest)

pub total_both : {X : Type 0} (f : X → ℕ) (xs ys : List X) → total f (xs ++ ys) ≡ total f xs + total f ys
total_both f [] ys = omega arith
total_both f (x ∷ xs) ys = let rest = total_both f xs ys in omega (arith, rest)

pub total_less : {X : Type 0} (f g : X → ℕ) (xs : List X) → ((x : X) → Among x xs → f x ≤ g x) → total f xs ≤ total g xs
total_less f g [] h = omega arith
total_less f g (x ∷ xs) h = let here = h x (inl refl) in let rest = total_less f g xs (λ y a. h y (inr a)) in omega (arith, here, rest)

pub total_ones : {X : Type 0} (xs : List X) → total (λ (x : X). 1) xs ≡ length xs
total_ones [] = refl
total_ones (x ∷ xs) = let rest = total_ones xs in omega (arith, rest)

-- the order of two sums doesn't matter
pub exchanged : {X Y : Type 0} (g : X → Y → ℕ) (xs : List X) (ys : List Y) → total (λ x. total (λ y. g x y) ys) xs ≡ total (λ y. total (λ x. g x y) xs) ys
exchanged g [] ys = sym (total_zero ys)
exchanged g (x ∷ xs) ys = ap (λ n. total (λ y. g x y) ys + n) (exchanged g xs ys) ∙ sym (total_plus (λ y. g x y) (λ y. total (λ z. g z y) xs) ys)

-- ---- at most once

record Passes {X : Type 0} (p : X → Bool) (xs : List X) : Type 0 where
  element : X
  among : Among element xs
  passes : p element ≡ true

none_or_one : {X : Type 0} (p : X → Bool) (xs : List X) → (total (λ x. one (p x)) xs ≡ 0) ⊎ Passes p xs
none_or_one p [] = inl refl
none_or_one p (x ∷ xs) = by (p x) refl (none_or_one p xs)
  where
    by : (b : Bool) → p x ≡ b → (total (λ y. one (p y)) xs ≡ 0) ⊎ Passes p xs → (one (p x) + total (λ y. one (p y)) xs ≡ 0) ⊎ Passes p (x ∷ xs)
    by true e rest = inr (record { element = x; among = inl refl; passes = e })
    by false e (inl h) = let here : one (p x) ≡ 0 = ap one e in inl (omega (arith, here, h))
    by false e (inr r) = inr (record { element = r.element; among = inr r.among; passes = r.passes })

-- what each element that passes does but once
pub at_most_once : {X : Type 0} (p : X → Bool) (xs : List X) → ((x : X) → Among x xs → p x ≡ true → total (λ y. one (p y)) xs ≤ 1) → total (λ y. one (p y)) xs ≤ 1
at_most_once p xs h = by (none_or_one p xs)
  where
    by : (total (λ x. one (p x)) xs ≡ 0) ⊎ Passes p xs → total (λ y. one (p y)) xs ≤ 1
    by (inl none) = omega (arith, none)
    by (inr r) = h r.element r.among r.passes
