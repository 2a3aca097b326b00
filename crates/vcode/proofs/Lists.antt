-- What stands next in a list, and what passes a test that all pass.
use Rattle.std.proofs.Common.{◌≡◌, ℕ, zero, suc, ◌+◌, ◌<◌, List, [], ◌∷◌, ◌++◌, length, get_or, slice_get, drop, Option, Some, None, refl, sym, ap, ◌∙◌, arith}

-- the items from one on are it and those behind it
pub item_next : {X : Type 0} (xs : List X) (i : ℕ) (x : X) → i < length xs → x ≡ get_or xs i x → drop i xs ≡ x ∷ drop (i + 1) xs
item_next [] i x low e = absurd (omega arith)
item_next (y ∷ ys) zero x low e = ap (λ z. z ∷ ys) (sym e)
item_next (y ∷ ys) (suc i) x low e = item_next ys i x (omega arith) e ∙ ap (λ k. x ∷ drop k (y ∷ ys)) (let f : suc (i + 1) ≡ suc i + 1 = omega arith in f)

pub head_at : {X : Type 0} (xs : List X) (n : ℕ) (y : X) (ys : List X) → drop n xs ≡ y ∷ ys → slice_get xs n ≡ Some y
head_at [] zero y ys h = cc
head_at [] (suc n) y ys h = cc
head_at (x ∷ xs) zero y ys h = let e : x ≡ y = cc in ap (λ z. Some z) e
head_at (x ∷ xs) (suc n) y ys h = head_at xs n y ys h

tail_suc : {X : Type 0} (xs : List X) (n : ℕ) (y : X) (ys : List X) → drop n xs ≡ y ∷ ys → drop (suc n) xs ≡ ys
tail_suc [] zero y ys h = cc
tail_suc [] (suc n) y ys h = cc
tail_suc (x ∷ xs) zero y ys h = let e : xs ≡ ys = cc in e
tail_suc (x ∷ xs) (suc n) y ys h = tail_suc xs n y ys h

pub tail_at : {X : Type 0} (xs : List X) (n : ℕ) (y : X) (ys : List X) → drop n xs ≡ y ∷ ys → drop (n + 1) xs ≡ ys
tail_at xs n y ys h = ap (λ k. drop k xs) (let e : n + 1 ≡ suc n = omega arith in e) ∙ tail_suc xs n y ys h

pub nothing_at : {X : Type 0} (xs : List X) (n : ℕ) → drop n xs ≡ [] → slice_get xs n ≡ None
nothing_at [] n h = refl
nothing_at (x ∷ xs) zero h = cc
nothing_at (x ∷ xs) (suc n) h = nothing_at xs n h

pub same_some : {X : Type 0} (x y : X) (o : Option X) → o ≡ Some x → o ≡ Some y → x ≡ y
same_some x y o e f = let g : Some x ≡ Some y = sym e ∙ f in cc

pub one_more : {X : Type 0} (xs : List X) (x : X) → length (xs ++ x ∷ []) ≡ length xs + 1
one_more [] x = refl
one_more (y ∷ xs) x = ap suc (one_more xs x) ∙ (let e : suc (length xs + 1) ≡ suc (length xs) + 1 = omega arith in e)
