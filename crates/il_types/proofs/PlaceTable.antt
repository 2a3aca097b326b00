-- Tables of the places of labels' blocks.
use Rattle.std.proofs.Common.{◌≡◌, ℕ, zero, suc, ◌+◌, ◌<◌, Bool, true, false, cond, nat_eq, List, [], ◌∷◌, ◌++◌, length, take, get_or, refl, ap, sym, ◌∙◌, arith, slice_set, Option, Some, None}
use Rattle.std.specs.List.{position, position_from}
use Rattle.std.proofs.lemmas.Iterator.Adapters.{position_from-zero}
use Rattle.std.specs.Option.{option_or}
use Rattle.std.proofs.lemmas.List.{take_more, length-take-le}
use Rattle.std.proofs.lemmas.Bool.Decides.{nat_tests}
use Rattle.il_ast.specs.declared.block.Block.{Block}
use Rattle.il_ast.specs.Prelude.{place_of}
use Rattle.il_types.specs.Prelude.{place_in}
use Rattle.il_ast.proofs.Truth.{eq_zero_suc, eq_suc_zero, eq_suc_suc}

-- ---- one table

pub place_past : (table : List (Option ℕ)) (l : ℕ) → place_in (table ++ None ∷ []) l ≡ place_in table l
place_past [] zero = refl
place_past [] (suc l) = refl
place_past (x ∷ table) zero = refl
place_past (x ∷ table) (suc l) = place_past table l

place_set : (table : List (Option ℕ)) (at l n : ℕ) → at < length table → place_in (slice_set table at (Some n)) l ≡ cond (nat_eq at l) (Some n) (place_in table l)
place_set [] at l n lt = absurd (omega arith)
place_set (x ∷ table) zero zero n lt = refl
place_set (x ∷ table) zero (suc l) n lt = ap (λ b. cond b (Some n) (place_in table l)) (sym (eq_zero_suc l))
place_set (x ∷ table) (suc at) zero n lt = ap (λ b. cond b (Some n) (place_in (x ∷ table) zero)) (sym (eq_suc_zero at))
place_set (x ∷ table) (suc at) (suc l) n lt = place_set table at l n (omega arith) ∙ ap (λ b. cond b (Some n) (place_in table l)) (sym (eq_suc_suc at l))

or_none : (o : Option ℕ) → o ≡ option_or o None
or_none None = refl
or_none (Some x) = refl

-- a label that had no place
pub set_free : (old table : List (Option ℕ)) (at n : ℕ) → at < length table → place_in table at ≡ None → ((l : ℕ) → place_in table l ≡ place_in old l) → (l : ℕ) → place_in (slice_set table at (Some n)) l ≡ option_or (place_in old l) (cond (nat_eq at l) (Some n) None)
set_free old table at n lt free same l = place_set table at l n lt ∙ by (nat_eq at l) refl
  where
    by : (b : Bool) → nat_eq at l ≡ b → cond b (Some n) (place_in table l) ≡ option_or (place_in old l) (cond b (Some n) None)
    by true e =
        let here : at ≡ l = grind (arith, nat_tests) in
        let absent : place_in old l ≡ None = sym (same l) ∙ (ap (place_in table) (sym here) ∙ free) in
        ap (λ o. option_or o (Some n)) (sym absent)
    by false e = same l ∙ or_none (place_in old l)

-- a label that had one
pub set_taken : (old table : List (Option ℕ)) (at n m : ℕ) → place_in table at ≡ Some m → ((l : ℕ) → place_in table l ≡ place_in old l) → (l : ℕ) → place_in table l ≡ option_or (place_in old l) (cond (nat_eq at l) (Some n) None)
set_taken old table at n m taken same l = by (nat_eq at l) refl
  where
    by : (b : Bool) → nat_eq at l ≡ b → place_in table l ≡ option_or (place_in old l) (cond b (Some n) None)
    by true e =
        let here : at ≡ l = grind (arith, nat_tests) in
        let there : place_in old l ≡ Some m = sym (same l) ∙ (ap (place_in table) (sym here) ∙ taken) in
        same l ∙ (there ∙ ap (λ o. option_or o (Some n)) (sym there))
    by false e = same l ∙ or_none (place_in old l)

-- ---- the blocks of a function

from_push : {A : Type 0} (p : A → Bool) (i : ℕ) (xs : List A) (x : A) → position_from p i (xs ++ x ∷ []) ≡ option_or (position_from p i xs) (cond (p x) (Some (i + length xs)) None)
from_push p i [] x = let e : i ≡ i + 0 = omega arith in ap (λ n. cond (p x) (Some n) None) e
from_push p i (y ∷ xs) x =
    let e : (i + 1) + length xs ≡ i + suc (length xs) = omega arith in
    ap (cond (p y) (Some i)) (from_push p (i + 1) xs x ∙ ap (λ n. option_or (position_from p (i + 1) xs) (cond (p x) (Some n) None)) e)
    ∙ by (p y)
  where
    by : (b : Bool) → cond b (Some i) (option_or (position_from p (i + 1) xs) (cond (p x) (Some (i + suc (length xs))) None)) ≡ option_or (cond b (Some i) (position_from p (i + 1) xs)) (cond (p x) (Some (i + suc (length xs))) None)
    by true = refl
    by false = refl

position_push : {A : Type 0} (p : A → Bool) (xs : List A) (x : A) → position p (xs ++ x ∷ []) ≡ option_or (position p xs) (cond (p x) (Some (length xs)) None)
position_push p xs x =
    let none : 0 + length xs ≡ length xs = omega arith in
    position_from-zero p (xs ++ x ∷ [])
    ∙ (from_push p 0 xs x
    ∙ (ap (λ o. option_or o (cond (p x) (Some (0 + length xs)) None)) (sym (position_from-zero p xs))
    ∙ ap (λ n. option_or (position p xs) (cond (p x) (Some n) None)) none))

pub places_further : (blocks : List Block) (i : ℕ) (b : Block) (l : ℕ) → i < length blocks → b ≡ get_or blocks i b → place_of (take (i + 1) blocks) l ≡ option_or (place_of (take i blocks) l) (cond (nat_eq b.label l) (Some i) None)
places_further blocks i b l lt at =
    let long : length (take i blocks) ≡ i = length-take-le i blocks (omega arith) in
    ap (λ xs. place_of xs l) (take_more blocks i b lt ∙ ap (λ x. take i blocks ++ x ∷ []) (sym at))
    ∙ (position_push (λ (x : Block). nat_eq x.label l) (take i blocks) b
    ∙ ap (λ n. option_or (place_of (take i blocks) l) (cond (nat_eq b.label l) (Some n) None)) long)
