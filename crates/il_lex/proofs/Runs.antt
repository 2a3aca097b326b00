-- The longest front of a list whose bytes all pass a test.
use Rattle.std.proofs.Common.{◌≡◌, ℕ, suc, ◌+◌, Bool, true, false, cond, List, [], ◌∷◌, ◌++◌, length, take, drop, refl, ap, ◌∙◌}
use Rattle.std.specs.List.{prefix_len, list_all}
use Rattle.std.proofs.Math.Numerals.{one-add}
use Rattle.std.proofs.lemmas.Bool.{and_parts, and_from}

-- what follows a run: nothing, or a byte that fails the test
abbrev pub Stops : (ℕ → Bool) → List ℕ → Type 0
Stops p [] = Unit {0}
Stops p (y ∷ ys) = p y ≡ false

-- cases on a test, with what each says
pub cond_cases : {A : Type 0} (P : A → Type 0) (b : Bool) (x y : A) → (b ≡ true → P x) → (b ≡ false → P y) → P (cond b x y)
cond_cases P true x y f g = f refl
cond_cases P false x y f g = g refl

pub prefix_yes : (p : ℕ → Bool) (x : ℕ) (xs : List ℕ) → p x ≡ true → prefix_len p (x ∷ xs) ≡ suc (prefix_len p xs)
prefix_yes p x xs h = rw h (one-add (prefix_len p xs))

pub prefix_no : (p : ℕ → Bool) (x : ℕ) (xs : List ℕ) → p x ≡ false → prefix_len p (x ∷ xs) ≡ 0
prefix_no p x xs h = rw h refl

pub run_passes : (p : ℕ → Bool) (xs : List ℕ) → list_all p (take (prefix_len p xs) xs) ≡ true
run_passes p [] = refl
run_passes p (x ∷ xs) =
    cond_cases (λ n. list_all p (take n (x ∷ xs)) ≡ true) (p x) (1 + prefix_len p xs) 0
    (λ h. rw (one-add (prefix_len p xs)) (and_from _ _ h (run_passes p xs)))
    (λ h. refl)

pub run_stops : (p : ℕ → Bool) (xs : List ℕ) → Stops p (drop (prefix_len p xs) xs)
run_stops p [] = tt
run_stops p (x ∷ xs) =
    cond_cases (λ n. Stops p (drop n (x ∷ xs))) (p x) (1 + prefix_len p xs) 0
    (λ h. rw (one-add (prefix_len p xs)) (run_stops p xs))
    (λ h. h)

-- a run that is followed by what stops it is the longest front
pub run_len : (p : ℕ → Bool) (xs ys : List ℕ) → list_all p xs ≡ true → Stops p ys → prefix_len p (xs ++ ys) ≡ length xs
run_len p [] [] h s = refl
run_len p [] (y ∷ ys) h s = prefix_no p y ys s
run_len p (x ∷ xs) ys h s =
    let parts = and_parts (p x) (list_all p xs) h in
    prefix_yes p x (xs ++ ys) parts.0 ∙ ap suc (run_len p xs ys parts.1 s)
