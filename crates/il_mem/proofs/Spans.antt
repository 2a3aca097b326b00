-- The cells of a span, one after another.
use Rattle.std.proofs.Common.{◌≡◌, ℕ, zero, suc, ◌+◌, ◌-◌, ◌<◌, ◌≤◌, List, [], ◌∷◌, ◌++◌, length, take, drop, refl, ap, ◌∙◌, arith, slice_get, slice_set, Some, length-drop}
use Rattle.il_mem.specs.Written.{written}
use Rattle.il_ast.proofs.Listed.{length_take, drop_at}

pub get_take : {A : Type 0} (s : List A) (n k : ℕ) (x : A) → k < n → slice_get s k ≡ Some x → slice_get (take n s) k ≡ Some x
get_take s zero k x lt h = absurd (omega arith)
get_take [] (suc n) k x lt h = h
get_take (y ∷ s) (suc n) zero x lt h = h
get_take (y ∷ s) (suc n) (suc k) x lt h = get_take s n k x (omega arith) h

pub get_drop : {A : Type 0} (s : List A) (from k : ℕ) → slice_get (drop from s) k ≡ slice_get s (from + k)
get_drop s zero k = let e : 0 + k ≡ k = omega arith in rw e
get_drop [] (suc from) k = refl
get_drop (y ∷ s) (suc from) k = let e : suc from + k ≡ suc (from + k) = omega arith in rw e (get_drop s from k)

-- the cell at `from + k` is the one at k of the span
pub get_span : {A : Type 0} (s : List A) (from n k : ℕ) (x : A) → k < n → slice_get s (from + k) ≡ Some x → slice_get (take n (drop from s)) k ≡ Some x
get_span s from n k x lt h = get_take (drop from s) n k x lt (get_drop s from k ∙ h)

-- the span from k on begins with that cell
pub span_at : {A : Type 0} (s : List A) (from n k : ℕ) (x : A) → k < n → slice_get s (from + k) ≡ Some x → drop k (take n (drop from s)) ≡ x ∷ drop (k + 1) (take n (drop from s))
span_at s from n k x lt h = drop_at (take n (drop from s)) k x (get_span s from n k x lt h)

pub length_span : {A : Type 0} (s : List A) (from n : ℕ) → from + n ≤ length s → length (take n (drop from s)) ≡ n
length_span s from n h =
    let e : length (drop from s) ≡ length s - from = length-drop from s in
    length_take n (drop from s) (omega arith)

-- nothing is left past the end of a span
pub drop_all : {A : Type 0} (s : List A) (n : ℕ) → length s ≤ n → drop n s ≡ []
drop_all [] zero h = refl
drop_all [] (suc n) h = refl
drop_all (y ∷ s) zero h = absurd (omega arith)
drop_all (y ∷ s) (suc n) h = drop_all s n (omega arith)

-- ---- writing

-- the cells before a place stay
written_later : {A : Type 0} (to : ℕ) (xs : List A) (c : A) (cells : List A) → written (suc to) xs (c ∷ cells) ≡ c ∷ written to xs cells
written_later to [] c cells = refl
written_later to (x ∷ xs) c cells =
    let e : suc to + 1 ≡ suc (to + 1) = omega arith in rw e (written_later (to + 1) xs c (slice_set cells to x))

written_first : {A : Type 0} (xs cells : List A) → length xs ≤ length cells → written 0 xs cells ≡ xs ++ drop (length xs) cells
written_first [] cells h = refl
written_first (x ∷ xs) [] h = absurd (omega arith)
written_first (x ∷ xs) (c ∷ cells) h =
    let e : 0 + 1 ≡ suc zero = omega arith in
    rw e (written_later 0 xs x cells ∙ ap (λ ys. x ∷ ys) (written_first xs cells (omega arith)))

pub written_is : {A : Type 0} (to : ℕ) (xs cells : List A) → to + length xs ≤ length cells → written to xs cells ≡ take to cells ++ (xs ++ drop (to + length xs) cells)
written_is zero xs cells h =
    let e : 0 + length xs ≡ length xs = omega arith in rw e (written_first xs cells (omega arith))
written_is (suc to) xs [] h = absurd (omega arith)
written_is (suc to) xs (c ∷ cells) h =
    let e : suc to + length xs ≡ suc (to + length xs) = omega arith in
    rw e (written_later to xs c cells ∙ ap (λ ys. c ∷ ys) (written_is to xs cells (omega arith)))
