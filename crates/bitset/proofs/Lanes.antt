-- Eight lanes joined at once are eight words joined, and the mask of their comparison says whether one changed.
use Rattle.std.proofs.Common.{◌≡◌, ◌≢◌, ℕ, zero, suc, ◌+◌, ◌-◌, ◌%◌, ◌^◌, ◌<◌, ◌≤◌, Bool, true, false, not, nat_eq, List, [], ◌∷◌, length, get_or, bit_or, refl, sym, ◌∙◌, ap, arith, cond, map, w64, MatchBool}
use lib.Lanes.{zip2, chunk, put_chunk, mask_l, top}
use Rattle.std.proofs.lemmas.Bool.Decides.{nat_tests}
use Rattle.std.proofs.lemmas.Simd.{length-put_chunk, length-chunk, length-zip2, get_or-chunk, get_or-zip2, get_or-put_chunk_below, get_or-put_chunk_at, get_or-put_chunk_above, tops_compared, mask_l-mod}
use Rattle.bitset.specs.Words.{UnionIn, ChangedIn}

-- the eight words from `at` on, joined
abbrev pub lanes : ℕ → List ℕ → List ℕ → List ℕ
lanes at xs ys = zip2 bit_or (chunk at 8 xs) (chunk at 8 ys)

length-lanes : (at : ℕ) (xs ys : List ℕ) → at + 8 ≤ length xs → length xs ≡ length ys → length (lanes at xs ys) ≡ 8
length-lanes at xs ys h e =
    length-zip2 bit_or (chunk at 8 xs) (chunk at 8 ys) (length-chunk at 8 xs h ∙ sym (length-chunk at 8 ys (omega (arith, e)))) ∙ length-chunk at 8 xs h

lane : (at j : ℕ) (xs ys : List ℕ) → j < 8 → at + 8 ≤ length xs → length xs ≡ length ys
    → get_or (lanes at xs ys) j 0 ≡ bit_or (get_or xs (at + j) 0) (get_or ys (at + j) 0)
lane at j xs ys within h e =
    let x = get_or-chunk at 8 xs j 0 within in
    let y = get_or-chunk at 8 ys j 0 within in
    let lx : length (chunk at 8 xs) ≡ 8 = length-chunk at 8 xs h in
    let ly : length (chunk at 8 ys) ≡ 8 = length-chunk at 8 ys (omega (arith, e)) in
    get_or-zip2 bit_or (chunk at 8 xs) (chunk at 8 ys) j 0 0 0 (omega (arith, lx)) (omega (arith, ly)) ∙ ap (λ a. bit_or a (get_or (chunk at 8 ys) j 0)) x ∙ ap (bit_or (get_or xs (at + j) 0)) y

pub UnionIn-lanes : (at : ℕ) (xs ys : List ℕ) → at + 8 ≤ length xs → length xs ≡ length ys → UnionIn at (at + 8) ys xs (put_chunk at xs (lanes at xs ys))
UnionIn-lanes at xs ys h e =
    let eight = length-lanes at xs ys h e in
    record {
      same_length = length-put_chunk at xs (lanes at xs ys);
      inside = λ k low high. (
          let j : ℕ = k - at in
          let is : at + j ≡ k = omega arith in
          rw (← is) (get_or-put_chunk_at at xs (lanes at xs ys) j 0 (omega (arith, eight)) (omega (arith, eight)) ∙ lane at j xs ys (omega arith) h e)
          );
      below = λ k low. get_or-put_chunk_below at xs (lanes at xs ys) k 0 low;
      above = λ k high. get_or-put_chunk_above at xs (lanes at xs ys) k 0 (omega (arith, eight, high));
    }

-- a mask that is 0 has no bit, and one that is not has one
mask-none : (ms : List Bool) → mask_l ms ≡ 0 → (i : ℕ) → get_or ms i false ≡ false
mask-none [] e i = refl
mask-none (true ∷ ms) e i = absurd (omega arith)
mask-none (false ∷ ms) e zero = refl
mask-none (false ∷ ms) e (suc i) = mask-none ms (omega arith) i

mask-some : (ms : List Bool) → 0 < mask_l ms → (i : ℕ) × (i < length ms) × (get_or ms i false ≡ true)
mask-some [] h = absurd (omega arith)
mask-some (true ∷ ms) h = (0, omega arith, refl)
mask-some (false ∷ ms) h = let r = mask-some ms (omega arith) in (suc r.0, omega (arith, r.1), r.2)

-- a test against 0
by_test : (n : ℕ) (b : Bool) (P Q : Type 0) → nat_eq n 0 ≡ b → (0 < n → P) → (n ≡ 0 → Q) → MatchBool (not b) P Q
by_test n true P Q e p q = q (grind (arith, nat_tests))
by_test n false P Q e p q = p (grind (arith, nat_tests))

by_zero : (n : ℕ) (P Q : Type 0) → (0 < n → P) → (n ≡ 0 → Q) → MatchBool (not (nat_eq n 0)) P Q
by_zero n P Q p q = by_test n (nat_eq n 0) P Q refl p q

-- where the lanes differ, as `simd_ne` compares them
abbrev pub differs : ℕ → ℕ → Bool
differs a b = not (nat_eq a b)

differs-true : (a b : ℕ) → differs a b ≡ true → a ≢ b
differs-true a b e same = absurd (grind (arith, nat_tests))

differs-false : (a b : ℕ) → differs a b ≡ false → a ≡ b
differs-false a b e = grind (arith, nat_tests)

-- the comparison of the eight words that come with those that were
abbrev compared : ℕ → List ℕ → List ℕ → List Bool
compared at xs ys = zip2 differs (lanes at xs ys) (chunk at 8 xs)

pub ChangedIn-lanes : (at : ℕ) (xs ys : List ℕ) → at + 8 ≤ length xs → length xs ≡ length ys
    → ChangedIn at (at + 8) xs (put_chunk at xs (lanes at xs ys)) (
    not (nat_eq (mask_l (map (top 63) (zip2 (λ a b. cond (differs a b) (2 ^ 64 - 1) 0) (lanes at xs ys) (chunk at 8 xs))) % 2 ^ 64) 0)
    )
ChangedIn-lanes at xs ys h e =
    let new : List ℕ = put_chunk at xs (lanes at xs ys) in
    let ms : List Bool = compared at xs ys in
    let eight : length (lanes at xs ys) ≡ 8 = length-lanes at xs ys h e in
    let as_many : length (chunk at 8 xs) ≡ 8 = length-chunk at 8 xs h in
    let number : length ms ≡ 8 = length-zip2 differs (lanes at xs ys) (chunk at 8 xs) (eight ∙ sym as_many) ∙ eight in
    let mask : mask_l (map (top 63) (zip2 (λ a b. cond (differs a b) (2 ^ 64 - 1) 0) (lanes at xs ys) (chunk at 8 xs))) % 2 ^ 64 ≡ mask_l ms =
    ap (λ bits. mask_l bits % 2 ^ 64) (tops_compared w64 differs (lanes at xs ys) (chunk at 8 xs)) ∙ mask_l-mod ms 64 (omega (arith, number))
    in
    let bit : (i : ℕ) → i < 8 → get_or ms i false ≡ differs (get_or new (at + i) 0) (get_or xs (at + i) 0) =
    λ i within. (
    get_or-zip2 differs (lanes at xs ys) (chunk at 8 xs) i 0 0 false (omega (arith, eight)) (omega (arith, as_many))
    ∙ ap (λ a. differs a (get_or (chunk at 8 xs) i 0)) (sym (get_or-put_chunk_at at xs (lanes at xs ys) i 0 (omega (arith, eight)) (omega (arith, eight))))
    ∙ ap (differs (get_or new (at + i) 0)) (get_or-chunk at 8 xs i 0 within)
    )
    in
    rw mask (by_zero (mask_l ms) _ _
    (λ some. (
    let found = mask-some ms some in
    let within : found.0 < 8 = omega (arith, found.1, number) in
    (at + found.0, omega arith, omega (arith, within), differs-true _ _ (sym (bit found.0 within) ∙ found.2))
    ))
    (λ none. λ k low high. (
    let i : ℕ = k - at in
    let is : at + i ≡ k = omega arith in
    let same = differs-false (get_or new (at + i) 0) (get_or xs (at + i) 0) (sym (bit i (omega arith)) ∙ mask-none ms none i) in
    rw (← is) same
    )))
