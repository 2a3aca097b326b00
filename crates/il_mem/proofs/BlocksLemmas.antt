-- Reading and changing blocks by number.
use Rattle.std.proofs.Common.{◌≡◌, ◌≢◌, ℕ, zero, suc, ◌+◌, ◌<◌, ◌≤◌, Bool, true, false, cond, ◌⊎◌, inl, inr, List, [], ◌∷◌, ◌++◌, length, refl, ap, sym, ◌∙◌, arith, slice_get, slice_set, nat_eq, nat_le, is_some, not, ◌||◌, Option, Some, None}
use Rattle.std.proofs.lemmas.Bool.{cases_eq}
use Rattle.std.proofs.lemmas.Bool.Decides.{nat_tests}
use Rattle.std.specs.Option.{option_map, option_and_then, option_flatten}
use Rattle.il_ast.specs.declared.value.Cell.{Cell}
use Rattle.il_ast.specs.Prelude.{Memory, block_at, cells_at, write_at, apart_or_same, span, put}
use Rattle.il_mem.specs.Changed.{blocks, cells_put, within_put, Changes, copied_place, Gives}

pub length-blocks : (f : ℕ → Option (List Cell)) (b n : ℕ) → length (blocks f b n) ≡ n
length-blocks f b zero = refl
length-blocks f b (suc n) = ap suc (length-blocks f (b + 1) n)

get-blocks : (f : ℕ → Option (List Cell)) (b n k : ℕ) → k < n → slice_get (blocks f b n) k ≡ Some (f (b + k))
get-blocks f b zero k lt = absurd (omega arith)
get-blocks f b (suc n) zero lt = let e : b ≡ b + 0 = omega arith in ap (λ j. Some (f j)) e
get-blocks f b (suc n) (suc k) lt =
    let e : b + 1 + k ≡ b + suc k = omega arith in
    get-blocks f (b + 1) n k (omega arith) ∙ ap (λ j. Some (f j)) e

get-past : (f : ℕ → Option (List Cell)) (b n k : ℕ) → n ≤ k → slice_get (blocks f b n) k ≡ None
get-past f b zero k le = refl
get-past f b (suc n) zero le = absurd (omega arith)
get-past f b (suc n) (suc k) le = get-past f (b + 1) n k (omega arith)

-- the block of a number below the count, and of any other
pub block_at-blocks : (f : ℕ → Option (List Cell)) (n k : ℕ) → k < n → block_at (blocks f 0 n) k ≡ f k
block_at-blocks f n k lt = let e : 0 + k ≡ k = omega arith in ap option_flatten (get-blocks f 0 n k lt) ∙ ap f e

pub block_at-past : (f : ℕ → Option (List Cell)) (n k : ℕ) → n ≤ k → block_at (blocks f 0 n) k ≡ None
block_at-past f n k le = ap option_flatten (get-past f 0 n k le)

pub blocks-same : (f g : ℕ → Option (List Cell)) (b n : ℕ) → ((q : ℕ) → b ≤ q → q < b + n → g q ≡ f q) → blocks g b n ≡ blocks f b n
blocks-same f g b zero h = refl
blocks-same f g b (suc n) h =
    ap (λ x. x ∷ blocks g (b + 1) n) (h b (omega arith) (omega arith))
    ∙ ap (λ xs. f b ∷ xs) (blocks-same f g (b + 1) n (λ q low high. h q (omega arith) (omega arith)))

-- one block changes
blocks-change : (f g : ℕ → Option (List Cell)) (b n k : ℕ) → ((q : ℕ) → q ≢ b + k → g q ≡ f q) → blocks g b n ≡ slice_set (blocks f b n) k (g (b + k))
blocks-change f g b zero k h = refl
blocks-change f g b (suc n) zero h =
    let e : b ≡ b + 0 = omega arith in
    ap (λ j. g j ∷ blocks g (b + 1) n) e
    ∙ ap (λ xs. g (b + 0) ∷ xs) (blocks-same f g (b + 1) n (λ q low high. h q (omega arith)))
blocks-change f g b (suc n) (suc k) h =
    let e : b + 1 + k ≡ b + suc k = omega arith in
    ap (λ x. x ∷ blocks g (b + 1) n) (h b (omega arith))
    ∙ ap (λ xs. f b ∷ xs)
    (blocks-change f g (b + 1) n k (λ q ne. h q (omega arith)) ∙ ap (λ j. slice_set (blocks f (b + 1) n) k (g j)) e)

pub blocks-set : (f g : ℕ → Option (List Cell)) (n k : ℕ) → ((q : ℕ) → q ≢ k → g q ≡ f q) → blocks g 0 n ≡ slice_set (blocks f 0 n) k (g k)
blocks-set f g n k h =
    let e : 0 + k ≡ k = omega arith in
    blocks-change f g 0 n k (λ q ne. h q (omega arith)) ∙ ap (λ j. slice_set (blocks f 0 n) k (g j)) e

pub blocks-push : (f : ℕ → Option (List Cell)) (b n : ℕ) → blocks f b (suc n) ≡ blocks f b n ++ f (b + n) ∷ []
blocks-push f b zero = let e : b ≡ b + 0 = omega arith in ap (λ j. f j ∷ []) e
blocks-push f b (suc n) =
    let e : b + 1 + n ≡ b + suc n = omega arith in
    ap (λ xs. f b ∷ xs) (blocks-push f (b + 1) n) ∙ ap (λ j. f b ∷ (blocks f (b + 1) n ++ f j ∷ [])) e

-- ---- changes of the memory

-- cells put into a block, by what that does to the block
pub put_as : (m : Memory) (b o : ℕ) (xs : Option (List Cell)) → option_and_then (write_at m b o) xs ≡ option_map (λ cells. slice_set m b (Some cells)) (option_and_then (cells_put o xs) (block_at m b))
put_as m b o xs = by_cells xs (block_at m b)
  where
    none : (c : Option (List Cell)) → None ≡ option_map (λ cells. slice_set m b (Some cells)) (option_and_then (cells_put o None) c)
    none None = refl
    none (Some cells) = refl

    some : (ys : List Cell) (c : Option (List Cell)) → option_map (λ cells. slice_set m b (Some cells)) (option_and_then (put o ys) c) ≡ option_map (λ cells. slice_set m b (Some cells)) (option_and_then (cells_put o (Some ys)) c)
    some ys None = refl
    some ys (Some cells) = refl

    by_cells : (ys : Option (List Cell)) (c : Option (List Cell)) → option_and_then (λ new. option_map (λ cells. slice_set m b (Some cells)) (option_and_then (put o new) c)) ys ≡ option_map (λ cells. slice_set m b (Some cells)) (option_and_then (cells_put o ys) c)
    by_cells None c = none c
    by_cells (Some ys) c = some ys c

some_is : (f g : ℕ → Option (List Cell)) (n b : ℕ) (o : Option (List Cell)) → true ≡ is_some o → g b ≡ o → ((q : ℕ) → q ≢ b → g q ≡ f q) → option_map (λ cells. slice_set (blocks f 0 n) b (Some cells)) o ≡ Some (blocks g 0 n)
some_is f g n b None t h others = cc
some_is f g n b (Some cells) t h others =
    ap (λ xs. Some xs) (sym (blocks-set f g n b others ∙ ap (λ x. slice_set (blocks f 0 n) b x) h))

none_is : (f : List Cell → Memory) (o : Option (List Cell)) → false ≡ is_some o → option_map f o ≡ None
none_is f None t = refl
none_is f (Some cells) t = cc

same_everywhere : (f g : ℕ → Option (List Cell)) (b : ℕ) → g b ≡ f b → ((q : ℕ) → q ≢ b → g q ≡ f q) → (q : ℕ) → g q ≡ f q
same_everywhere f g b here others q = by_cases (cases_eq q b)
  where
    by_cases : (q ≡ b) ⊎ (q ≢ b) → g q ≡ f q
    by_cases (inl e) = ap g e ∙ (here ∙ ap f (sym e))
    by_cases (inr ne) = others q ne

-- a change of one block among those made, as the memory sees it
pub gives : (F : List Cell → Option (List Cell)) (f g : ℕ → Option (List Cell)) (n b : ℕ) (r : Bool) (wanted : Option Memory) → Changes F f g b r → wanted ≡ option_map (λ cells. slice_set (blocks f 0 n) b (Some cells)) (option_and_then F (f b)) → Gives wanted (blocks f 0 n) (blocks g 0 n) r
gives F f g n b r wanted h e =
    record {
      done = λ t. e ∙ some_is f g n b (option_and_then F (f b)) (sym t ∙ h.found) (h.done t) h.others;
      nothing = λ t. e ∙ none_is (λ cells. slice_set (blocks f 0 n) b (Some cells)) (option_and_then F (f b)) (sym t ∙ h.found);
      stays = λ t. blocks-same f g 0 n (λ q low high. same_everywhere f g b (h.stays t) h.others q);
    }

-- cells put into one of the blocks made
pub put_made : (f : ℕ → Option (List Cell)) (n b o : ℕ) (xs : Option (List Cell)) → b < n → option_and_then (write_at (blocks f 0 n) b o) xs ≡ option_map (λ cells. slice_set (blocks f 0 n) b (Some cells)) (option_and_then (cells_put o xs) (f b))
put_made f n b o xs lt =
    put_as (blocks f 0 n) b o xs
    ∙ ap (λ c. option_map (λ cells. slice_set (blocks f 0 n) b (Some cells)) (option_and_then (cells_put o xs) c)) (block_at-blocks f n b lt)

-- and into none
pub put_none : (m : Memory) (b o : ℕ) (xs : Option (List Cell)) → block_at m b ≡ None → option_and_then (write_at m b o) xs ≡ None
put_none m b o xs e =
    put_as m b o xs ∙ ap (λ c. option_map (λ cells. slice_set m b (Some cells)) (option_and_then (cells_put o xs) c)) e

pub gives_nothing : (wanted : Option Memory) (m : Memory) → wanted ≡ None → Gives wanted m m false
gives_nothing wanted m e = record { done = λ h. absurd (false_true h); nothing = λ _. e; stays = λ _. refl }
  where
    false_true : false ≡ true → ⊥
    false_true h = cc

-- ---- copies

cells_made : (f : ℕ → Option (List Cell)) (n a o k : ℕ) → a < n → cells_at (blocks f 0 n) a o k ≡ option_and_then (span o k) (f a)
cells_made f n a o k lt = ap (option_and_then (span o k)) (block_at-blocks f n a lt)

cond_nothing : (t : Bool) (w : Option Memory) → w ≡ None → cond t w None ≡ None
cond_nothing true w e = e
cond_nothing false w e = refl

pub copy_from_none : (m : Memory) (a o b q k : ℕ) → block_at m a ≡ None → copied_place m k a o b q ≡ None
copy_from_none m a o b q k e =
    cond_nothing (apart_or_same k a o b q) _ (ap (λ c. option_and_then (write_at m b q) (option_and_then (span o k) c)) e)

pub copy_to_none : (m : Memory) (a o b q k : ℕ) → block_at m b ≡ None → copied_place m k a o b q ≡ None
copy_to_none m a o b q k e = cond_nothing (apart_or_same k a o b q) _ (put_none m b q (cells_at m a o k) e)

-- between two blocks
pub copy_across_is : (f : ℕ → Option (List Cell)) (n a o b q k : ℕ) → a < n → b < n → a ≢ b → copied_place (blocks f 0 n) k a o b q ≡ option_map (λ cells. slice_set (blocks f 0 n) b (Some cells)) (option_and_then (cells_put q (option_and_then (span o k) (f a))) (f b))
copy_across_is f n a o b q k la lb ne =
    let other : nat_eq a b ≡ false = grind (arith, nat_tests) in
    ap (λ t. cond (not t || (nat_eq o q || (nat_le (o + k) q || nat_le (q + k) o))) (option_and_then (write_at (blocks f 0 n) b q) (cells_at (blocks f 0 n) a o k)) None) other
    ∙ (put_made f n b q (cells_at (blocks f 0 n) a o k) lb
    ∙ ap (λ xs. option_map (λ cells. slice_set (blocks f 0 n) b (Some cells)) (option_and_then (cells_put q xs) (f b))) (cells_made f n a o k la))

-- within one
within_is : (w : List Cell → Memory) (o q k : ℕ) (t : Bool) (c : Option (List Cell)) → cond t (option_map w (option_and_then (cells_put q (option_and_then (span o k) c)) c)) None ≡ option_map w (option_and_then (λ cells. cond t (cells_put q (span o k cells) cells) None) c)
within_is w o q k true None = refl
within_is w o q k false None = refl
within_is w o q k true (Some cells) = refl
within_is w o q k false (Some cells) = refl

pub copy_within_is : (f : ℕ → Option (List Cell)) (n a o b q k : ℕ) → b < n → a ≡ b → copied_place (blocks f 0 n) k a o b q ≡ option_map (λ cells. slice_set (blocks f 0 n) b (Some cells)) (option_and_then (within_put q o k) (f b))
copy_within_is f n a o b q k lb e =
    let same : nat_eq b b ≡ true = grind (arith, nat_tests) in
    ap (λ j. copied_place (blocks f 0 n) k j o b q) e
    ∙ (ap (λ t. cond (not t || (nat_eq o q || (nat_le (o + k) q || nat_le (q + k) o))) (option_and_then (write_at (blocks f 0 n) b q) (cells_at (blocks f 0 n) b o k)) None) same
    ∙ (ap (λ x. cond (nat_eq o q || (nat_le (o + k) q || nat_le (q + k) o)) x None)
    (put_made f n b q (cells_at (blocks f 0 n) b o k) lb
    ∙ ap (λ xs. option_map (λ cells. slice_set (blocks f 0 n) b (Some cells)) (option_and_then (cells_put q xs) (f b))) (cells_made f n b o k lb))
    ∙ within_is (λ cells. slice_set (blocks f 0 n) b (Some cells)) o q k (nat_eq o q || (nat_le (o + k) q || nat_le (q + k) o)) (f b)))

-- ---- blocks made and dead

pub fresh_made : (f g : ℕ → Option (List Cell)) (n : ℕ) (cells : List Cell) → g n ≡ Some cells → ((q : ℕ) → q ≢ n → g q ≡ f q) → blocks g 0 (n + 1) ≡ blocks f 0 n ++ Some cells ∷ []
fresh_made f g n cells h others =
    let e : n + 1 ≡ suc n = omega arith in
    let k : 0 + n ≡ n = omega arith in
    ap (blocks g 0) e
    ∙ (blocks-push g 0 n
    ∙ (ap (λ xs. xs ++ g (0 + n) ∷ []) (blocks-same f g 0 n (λ q low high. others q (omega arith)))
    ∙ ap (λ x. blocks f 0 n ++ x ∷ []) (ap g k ∙ h)))

-- as many blocks, whatever they are
pub same_count : (f g : ℕ → Option (List Cell)) (n : ℕ) (m : Memory) → blocks f 0 n ≡ m → length (blocks g 0 n) ≡ length m
same_count f g n m e = length-blocks g 0 n ∙ (sym (length-blocks f 0 n) ∙ ap length e)
