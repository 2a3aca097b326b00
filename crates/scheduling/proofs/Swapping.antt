-- Lists in which an item and the next one have changed places.
use Rattle.std.proofs.Common.{◌≡◌, ℕ, zero, suc, ◌+◌, Bool, true, false, nat_eq, if◌then◌else◌, List, [], ◌∷◌, ◌++◌, length, slice_get, Some, refl, sym, ◌∙◌, ap, subst, arith, swap, slice_set, slice_index_or}
use Rattle.std.proofs.lemmas.Bool.Decides.{nat_tests}
use Rattle.vcode.specs.declared.place.Location.{Location}
use Rattle.vcode.specs.declared.line.Line.{Line}
use Rattle.scheduling.specs.Independent.{is_independent, are_independent, is_swap, swapped}

-- ys is xs with the items l and m from n on in each other's place
pub record Exchanged {X : Type 0} (n : ℕ) (xs ys : List X) (l m : X) : Type 0 where
  pub first : slice_get xs n ≡ Some l
  pub second : slice_get xs (n + 1) ≡ Some m
  pub first_now : slice_get ys n ≡ Some m
  pub second_now : slice_get ys (n + 1) ≡ Some l
  pub others : (j : ℕ) → nat_eq j n ≡ false → nat_eq j (n + 1) ≡ false → slice_get ys j ≡ slice_get xs j

exchanged_here : {X : Type 0} (l m : X) (rest : List X) → Exchanged 0 (l ∷ m ∷ rest) (m ∷ l ∷ rest) l m
exchanged_here l m rest =
    record {
      first = refl;
      second = refl;
      first_now = refl;
      second_now = refl;
      others = others;
    }
  where
    others : (j : ℕ) → nat_eq j 0 ≡ false → nat_eq j (0 + 1) ≡ false → slice_get (m ∷ l ∷ rest) j ≡ slice_get (l ∷ m ∷ rest) j
    others zero h k = absurd (let no : ⊥ = cc in no)
    others (suc zero) h k = absurd (let no : ⊥ = cc in no)
    others (suc (suc j)) h k = refl

next_one : (j n : ℕ) → nat_eq j n ≡ nat_eq (suc j) (suc n)
next_one j n = grind (arith, nat_tests)

one_further : (n : ℕ) → suc n + 1 ≡ suc (n + 1)
one_further n = omega arith

exchanged_behind : {X : Type 0} (n : ℕ) (x : X) (xs ys : List X) (l m : X) → Exchanged n xs ys l m → Exchanged (suc n) (x ∷ xs) (x ∷ ys) l m
exchanged_behind n x xs ys l m is =
    record {
      first = is.first;
      second = ap (slice_get (x ∷ xs)) (one_further n) ∙ is.second;
      first_now = is.first_now;
      second_now = ap (slice_get (x ∷ ys)) (one_further n) ∙ is.second_now;
      others = others;
    }
  where
    others : (j : ℕ) → nat_eq j (suc n) ≡ false → nat_eq j (suc n + 1) ≡ false → slice_get (x ∷ ys) j ≡ slice_get (x ∷ xs) j
    others zero h k = refl
    others (suc j) h k = is.others j (next_one j n ∙ h) (next_one j (n + 1) ∙ ap (nat_eq (suc j)) (sym (one_further n)) ∙ k)

-- the swap is done, or nothing is
pub data Swapped (at : ℕ) (lines : List (Line Location)) : Type 0 where
  Stays : swapped at lines ≡ lines → Swapped at lines
  Moves : (l m : Line Location) → is_independent l m ≡ true → Exchanged at lines (swapped at lines) l m → Swapped at lines

pub swapped_is : (at : ℕ) (lines : List (Line Location)) → Swapped at lines
swapped_is zero [] = Stays refl
swapped_is (suc at) [] = Stays refl
swapped_is zero (l ∷ []) = Stays refl
swapped_is zero (l ∷ m ∷ rest) = by (is_independent l m) refl
  where
    by : (b : Bool) → is_independent l m ≡ b → Swapped zero (l ∷ m ∷ rest)
    by true h =
        Moves l m h
        (subst (λ (b : Bool). Exchanged 0 (l ∷ m ∷ rest) (if b then m ∷ l ∷ rest else l ∷ m ∷ rest) l m) (sym h) (exchanged_here l m rest))
    by false h = Stays (ap (λ b. if b then m ∷ l ∷ rest else l ∷ m ∷ rest) h)
swapped_is (suc at) (x ∷ lines) = by (swapped_is at lines)
  where
    by : Swapped at lines → Swapped (suc at) (x ∷ lines)
    by (Stays e) = Stays (ap (λ ls. x ∷ ls) e)
    by (Moves l m h is) = Moves l m h (exchanged_behind at x lines (swapped at lines) l m is)

-- ---- one item of a list in the place of another

pub item_at : {X : Type 0} (front : List X) (x : X) (rest : List X) → slice_get (front ++ x ∷ rest) (length front) ≡ Some x
item_at [] x rest = refl
item_at (y ∷ front) x rest = item_at front x rest

pub elsewhere : {X : Type 0} (front : List X) (x y : X) (rest : List X) (j : ℕ) → nat_eq j (length front) ≡ false → slice_get (front ++ y ∷ rest) j ≡ slice_get (front ++ x ∷ rest) j
elsewhere [] x y rest zero h = absurd (let no : ⊥ = cc in no)
elsewhere [] x y rest (suc j) h = refl
elsewhere (z ∷ front) x y rest zero h = refl
elsewhere (z ∷ front) x y rest (suc j) h = elsewhere front x y rest j (next_one j (length front) ∙ h)

-- ---- the swap as a slice does it

set_done : (d : Line Location) (at : ℕ) (lines : List (Line Location)) → is_swap at lines ≡ true
    → slice_set (slice_set lines at (slice_index_or lines (at + 1) d)) (at + 1) (slice_index_or lines at d) ≡ swapped at lines
set_done d zero [] h = absurd (let no : ⊥ = cc in no)
set_done d (suc at) [] h = absurd (let no : ⊥ = cc in no)
set_done d zero (l ∷ []) h = absurd (let no : ⊥ = cc in no)
set_done d zero (l ∷ m ∷ rest) h = sym (ap (λ b. if b then m ∷ l ∷ rest else l ∷ m ∷ rest) h)
set_done d (suc at) (x ∷ lines) h =
    ap (λ k. slice_set (slice_set (x ∷ lines) (suc at) (slice_index_or (x ∷ lines) k d)) k (slice_index_or (x ∷ lines) (suc at) d)) (one_further at)
    ∙ ap (λ ls. x ∷ ls) (set_done d at lines (sym (ap (λ k. are_independent (slice_get lines at) (slice_get (x ∷ lines) k)) (one_further at)) ∙ h))

pub swap_done : (at : ℕ) (lines : List (Line Location)) → is_swap at lines ≡ true → swap lines at (at + 1) ≡ swapped at lines
swap_done at [] h = absurd (let no : ⊥ = cc in no)
swap_done at (d ∷ lines) h = set_done d at (d ∷ lines) h

pub swap_left : (at : ℕ) (lines : List (Line Location)) → is_swap at lines ≡ false → lines ≡ swapped at lines
swap_left zero [] h = refl
swap_left (suc at) [] h = refl
swap_left zero (l ∷ []) h = refl
swap_left zero (l ∷ m ∷ rest) h = sym (ap (λ b. if b then m ∷ l ∷ rest else l ∷ m ∷ rest) h)
swap_left (suc at) (x ∷ lines) h =
    ap (λ ls. x ∷ ls) (swap_left at lines (sym (ap (λ k. are_independent (slice_get lines at) (slice_get (x ∷ lines) k)) (one_further at)) ∙ h))
