-- What holds of each element of a list.
use Rattle.std.proofs.Common.{◌≡◌, ℕ, zero, suc, Bool, true, List, [], ◌∷◌, ◌++◌, take, drop, map, replicate, refl, slice_get, slice_set, Option, Some, None, option_map}
use Rattle.std.specs.List.{list_all}
use Rattle.std.proofs.lemmas.Bool.{and_parts}

abbrev pub Every : {A : Type 0} → (A → Type 0) → List A → Type 0
Every P [] = Unit {0}
Every P (x ∷ xs) = P x × Every P xs

-- of what there may be
abbrev pub IfThere : {A : Type 0} → (A → Type 0) → Option A → Type 0
IfThere P None = Unit {0}
IfThere P (Some x) = P x

pub every_append : {A : Type 0} (P : A → Type 0) (xs ys : List A) → Every P xs → Every P ys → Every P (xs ++ ys)
every_append P [] ys h k = k
every_append P (x ∷ xs) ys h k = (h.0, every_append P xs ys h.1 k)

pub every_take : {A : Type 0} (P : A → Type 0) (n : ℕ) (xs : List A) → Every P xs → Every P (take n xs)
every_take P zero xs h = tt
every_take P (suc n) [] h = tt
every_take P (suc n) (x ∷ xs) h = (h.0, every_take P n xs h.1)

pub every_drop : {A : Type 0} (P : A → Type 0) (n : ℕ) (xs : List A) → Every P xs → Every P (drop n xs)
every_drop P zero xs h = h
every_drop P (suc n) [] h = tt
every_drop P (suc n) (x ∷ xs) h = every_drop P n xs h.1

pub every_set : {A : Type 0} (P : A → Type 0) (xs : List A) (k : ℕ) (x : A) → Every P xs → P x → Every P (slice_set xs k x)
every_set P [] k x h p = tt
every_set P (y ∷ xs) zero x h p = (p, h.1)
every_set P (y ∷ xs) (suc k) x h p = (h.0, every_set P xs k x h.1 p)

pub every_replicate : {A : Type 0} (P : A → Type 0) (n : ℕ) (x : A) → P x → Every P (replicate n x)
every_replicate P zero x p = tt
every_replicate P (suc n) x p = (p, every_replicate P n x p)

pub every_map : {A B : Type 0} (P : B → Type 0) (f : A → B) → ((x : A) → P (f x)) → (xs : List A) → Every P (map f xs)
every_map P f h [] = tt
every_map P f h (x ∷ xs) = (h x, every_map P f h xs)

pub there_at : {A : Type 0} (P : A → Type 0) (xs : List A) (k : ℕ) → Every P xs → IfThere P (slice_get xs k)
there_at P [] k h = tt
there_at P (x ∷ xs) zero h = h.0
there_at P (x ∷ xs) (suc k) h = there_at P xs k h.1

-- of what a test takes
pub all_there : {A : Type 0} (test : A → Bool) (xs : List A) (k : ℕ) → list_all test xs ≡ true → IfThere (λ (x : A). test x ≡ true) (slice_get xs k)
all_there test [] k h = tt
all_there test (x ∷ xs) zero h = (and_parts (test x) (list_all test xs) h).0
all_there test (x ∷ xs) (suc k) h = all_there test xs k (and_parts (test x) (list_all test xs) h).1

pub mapped : {A B : Type 0} (f : A → B) (xs : List A) (k : ℕ) → slice_get (map f xs) k ≡ option_map f (slice_get xs k)
mapped f [] k = refl
mapped f (x ∷ xs) zero = refl
mapped f (x ∷ xs) (suc k) = mapped f xs k
