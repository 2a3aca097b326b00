-- Blocks that die, in the other order.
use Rattle.std.proofs.Common.{◌≡◌, ℕ, zero, suc, ◌+◌, ◌<◌, ◌≤◌, List, [], ◌∷◌, ◌++◌, length, take, refl, ap, sym, ◌∙◌, arith, slice_get, Some}
use Rattle.il_ast.specs.Prelude.{Memory, free, free_all}

free_twice : (m : Memory) (a b : ℕ) → free (free m a) b ≡ free (free m b) a
free_twice [] a b = refl
free_twice (x ∷ m) zero zero = refl
free_twice (x ∷ m) zero (suc b) = refl
free_twice (x ∷ m) (suc a) zero = refl
free_twice (x ∷ m) (suc a) (suc b) = ap (λ xs. x ∷ xs) (free_twice m a b)

-- one that dies before others dies behind them
free_last : (m : Memory) (bs : List ℕ) (b : ℕ) → free_all (free m b) bs ≡ free_all m (bs ++ b ∷ [])
free_last m [] b = refl
free_last m (a ∷ bs) b = ap (λ k. free_all k bs) (free_twice m b a) ∙ free_last (free m a) bs b

take_one_more : (bs : List ℕ) (k b : ℕ) → slice_get bs k ≡ Some b → take (suc k) bs ≡ take k bs ++ b ∷ []
take_one_more [] k b h = cc
take_one_more (x ∷ bs) zero b h = let e : x ≡ b = cc in ap (λ y. y ∷ []) e
take_one_more (x ∷ bs) (suc k) b h = ap (λ xs. x ∷ xs) (take_one_more bs k b h)

pub frees_next : (m new : Memory) (bs : List ℕ) (left k b : ℕ) (goal : Memory) → left ≡ k + 1 → slice_get bs k ≡ Some b → new ≡ free m b → free_all m (take left bs) ≡ goal → free_all new (take k bs) ≡ goal
frees_next m new bs left k b goal e h is inv =
    let more : left ≡ suc k = omega arith in
    ap (λ x. free_all x (take k bs)) is
    ∙ (free_last m (take k bs) b
    ∙ (ap (free_all m) (sym (take_one_more bs k b h) ∙ ap (λ j. take j bs) (sym more)) ∙ inv))
