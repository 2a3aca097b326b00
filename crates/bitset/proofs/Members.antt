-- What a change of words is for the numbers of the set.
use Rattle.std.proofs.Common.{◌≡◌, ◌≢◌, ℕ, zero, suc, ◌+◌, ◌-◌, ◌*◌, ◌/◌, ◌%◌, ◌^◌, ◌<◌, ◌≤◌, Bool, true, false, not, nat_eq, ◌||◌, ◌&&◌, ◌==◌, List, length, get_or, bit_or, bit_and, refl, sym, ◌∙◌, ap, arith, inl, inr, w64, min, max, slice_set, replicate, MatchBool, ◌⊎◌, get_or-set_same, get_or-set_other}
use Rattle.std.specs.Int.{bit_at, bit_not}
use Rattle.std.proofs.Math.Nat.{eq-or-lt_of_le}
use Rattle.std.proofs.lemmas.Bool.{cases_lt, cases_eq}
use Rattle.std.proofs.lemmas.Bool.Decides.{nat_tests}
use Rattle.std.proofs.lemmas.List.{get_or_past}
use Rattle.std.proofs.lemmas.Nat.Bits.{bit_at-lt, bit_at-zero, bit_at_or, bit_at_and, bit_at_not, bit_at_set_same, bit_at_set_other, bit_at_clear_same, bit_at_clear_other, shr_and_one, same_from_bits, bit_at_above}
use Rattle.bitset.specs.Bits.{Grew, SameMembers, is_set}
use Rattle.bitset.specs.Words.{UnionIn, ChangedIn, MinusBelow}

-- ---- one bit

or_bit : (a b i : ℕ) → (bit_at (bit_or a b) i == 1) ≡ ((bit_at a i == 1) || (bit_at b i == 1))
or_bit a b i =
    let e = bit_at_or a b i in
    let x = bit_at-lt a i in
    let y = bit_at-lt b i in
    bits (bit_at a i) (bit_at b i) (bit_at (bit_or a b) i) e x y
  where
    bits : (x y z : ℕ) → z ≡ max x y → x < 2 → y < 2 → (z == 1) ≡ ((x == 1) || (y == 1))
    bits x y z e p q = grind (arith, nat_tests)

minus_bit : (a b i : ℕ) → b < 2 ^ 64 → i < 64 → (bit_at (bit_and a (bit_not w64 b)) i == 1) ≡ ((bit_at a i == 1) && not (bit_at b i == 1))
minus_bit a b i fits within =
    bits (bit_at a i) (bit_at b i) (bit_at (bit_and a (bit_not w64 b)) i) (bit_at_and a (bit_not w64 b) i ∙ ap (min (bit_at a i)) (bit_at_not w64 b i fits within)) (bit_at-lt a i) (bit_at-lt b i)
  where
    bits : (x y z : ℕ) → z ≡ min x (1 - y) → x < 2 → y < 2 → (z == 1) ≡ ((x == 1) && not (y == 1))
    bits x y z e p q = grind (arith, nat_tests)

-- ---- words

-- past the words no bit is set
is_set-past : (words : List ℕ) (i : ℕ) → length words ≤ i / 64 → is_set words i ≡ false
unfolding is_set
is_set-past words i h =
    let none = get_or_past words (i / 64) 0 h in
    ap (λ w. bit_at w (i % 64) == 1) none ∙ ap (λ b. b == 1) (bit_at-zero (i % 64))

-- words that agree at the place of a bit agree at the bit
is_set-same : (xs ys : List ℕ) (i : ℕ) → get_or xs (i / 64) 0 ≡ get_or ys (i / 64) 0 → is_set xs i ≡ is_set ys i
unfolding is_set
is_set-same xs ys i e = ap (λ w. bit_at w (i % 64) == 1) e

-- bit j of word k is number 64 * k + j
is_set-at : (words : List ℕ) (k j : ℕ) → j < 64 → is_set words (64 * k + j) ≡ (bit_at (get_or words k 0) j == 1)
unfolding is_set
is_set-at words k j within =
    let quotient : (64 * k + j) / 64 ≡ k = omega arith in
    let rest : (64 * k + j) % 64 ≡ j = omega arith in
    ap (λ q. bit_at (get_or words q 0) ((64 * k + j) % 64) == 1) quotient ∙ ap (λ r. bit_at (get_or words k 0) r == 1) rest

-- what `has_number` reads
pub is_set-read : (words : List ℕ) (i : ℕ) → nat_eq (bit_and (get_or words (i / 64) 0 / 2 ^ (i % 64)) 1) 1 ≡ is_set words i
unfolding is_set
is_set-read words i = ap (λ b. nat_eq b 1) (shr_and_one (get_or words (i / 64) 0) (i % 64))

-- the union of the words is the union of the sets
is_set-inside : (xs ys new : List ℕ) → UnionIn 0 (length xs) ys xs new → (i : ℕ) → i / 64 < length xs → is_set new i ≡ (is_set xs i || is_set ys i)
unfolding is_set
is_set-inside xs ys new u i low =
    ap (λ w. bit_at w (i % 64) == 1) (u.inside (i / 64) (omega arith) low) ∙ or_bit (get_or xs (i / 64) 0) (get_or ys (i / 64) 0) (i % 64)

pub is_set-union : (xs ys new : List ℕ) → length xs ≡ length ys → UnionIn 0 (length xs) ys xs new → (i : ℕ) → is_set new i ≡ (is_set xs i || is_set ys i)
is_set-union xs ys new e u i = elim (cases_lt (i / 64) (length xs)) [
  | inl low ↦ is_set-inside xs ys new u i low
  | inr high ↦ (
      let none : is_set new i ≡ false = is_set-past new i (omega (arith, u.same_length, high)) in
      let x : is_set xs i ≡ false = is_set-past xs i high in
      let y : is_set ys i ≡ false = is_set-past ys i (omega (arith, e, high)) in
      rw (none, x, y) refl
      )
]

-- the words less others are the set less the other
is_set-less : (xs ys new : List ℕ) → MinusBelow (length xs) ys xs new → ((k : ℕ) → get_or ys k 0 < 2 ^ 64) → (i : ℕ) → i / 64 < length xs
    → is_set new i ≡ (is_set xs i && not (is_set ys i))
unfolding is_set
is_set-less xs ys new m fits i low =
    ap (λ w. bit_at w (i % 64) == 1) (m.inside (i / 64) low) ∙ minus_bit (get_or xs (i / 64) 0) (get_or ys (i / 64) 0) (i % 64) (fits (i / 64)) (omega arith)

pub is_set-minus : (xs ys new : List ℕ) → MinusBelow (length xs) ys xs new → ((k : ℕ) → get_or ys k 0 < 2 ^ 64) → (i : ℕ) → is_set new i ≡ (is_set xs i && not (is_set ys i))
is_set-minus xs ys new m fits i = elim (cases_lt (i / 64) (length xs)) [
  | inl low ↦ is_set-less xs ys new m fits i low
  | inr high ↦ (
      let none : is_set new i ≡ false = is_set-past new i (omega (arith, m.same_length, high)) in
      let x : is_set xs i ≡ false = is_set-past xs i high in
      rw (none, x) refl
      )
]

-- ---- growth

-- two numbers of 64 bits agree in the bits below n, or differ in one of them
agree_or_differ : (a b n : ℕ) → ((j : ℕ) → j < n → bit_at a j ≡ bit_at b j) ⊎ ((j : ℕ) × (j < n) × (bit_at a j ≢ bit_at b j))
agree_or_differ a b zero = inl (λ j h. absurd (omega arith))
agree_or_differ a b (suc n) = elim (agree_or_differ a b n) [
  | inl same ↦ at_next a b n same (nat_eq (bit_at a n) (bit_at b n)) refl
  | inr found ↦ inr (found.0, omega (arith, found.1), found.2)
]
  where
    at_next : (a b n : ℕ) → ((j : ℕ) → j < n → bit_at a j ≡ bit_at b j) → (t : Bool) → nat_eq (bit_at a n) (bit_at b n) ≡ t
        → ((j : ℕ) → j < suc n → bit_at a j ≡ bit_at b j) ⊎ ((j : ℕ) × (j < suc n) × (bit_at a j ≢ bit_at b j))
    at_next a b n same true e = inl (λ j h. elim (eq-or-lt_of_le (let le : j ≤ n = omega arith in le)) [
      | inl at ↦ (let here : bit_at a n ≡ bit_at b n = grind (arith, nat_tests) in rw at here)
      | inr below ↦ same j below
    ])
    at_next a b n same false e = inr (n, omega arith, (λ p. grind (arith, nat_tests)))

-- a number to which bits below 64 were added differs from itself in one of them, or stays
agree_above : (a b j : ℕ) → b < 2 ^ 64 → 64 ≤ j → bit_at (bit_or a b) j ≡ bit_at a j
agree_above a b j fits high =
    let none : bit_at b j ≡ 0 = bit_at_above b 64 j fits high in
    bit_at_or a b j ∙ ap (max (bit_at a j)) none ∙ omega arith

differing_bit : (a b : ℕ) → b < 2 ^ 64 → bit_or a b ≢ a → (j : ℕ) × (j < 64) × (bit_at (bit_or a b) j ≢ bit_at a j)
differing_bit a b fits differ = elim (agree_or_differ (bit_or a b) a 64) [
  | inl same ↦ absurd (differ (same_from_bits (bit_or a b) a (λ j. elim (cases_lt j 64) [ inl low ↦ same j low | inr high ↦ agree_above a b j fits high ])))
  | inr found ↦ found
]

-- where a bit of a union is not that of the first number, it came in
came_in : (x y z : ℕ) → z ≡ max x y → x < 2 → y < 2 → z ≢ x → ((x == 1) ≡ false) × ((z == 1) ≡ true)
came_in x y z e p q differ = (grind (arith, nat_tests), grind (arith, nat_tests))

-- a word that changed has a number that came in
came_in-at : (xs ys new : List ℕ) → UnionIn 0 (length xs) ys xs new → (k : ℕ) → k < length xs → get_or new k 0 ≢ get_or xs k 0 → ((k : ℕ) → get_or ys k 0 < 2 ^ 64)
    → Grew xs new
came_in-at xs ys new u k within differ fits =
    let is : get_or new k 0 ≡ bit_or (get_or xs k 0) (get_or ys k 0) = u.inside k (omega arith) within in
    let found = differing_bit (get_or xs k 0) (get_or ys k 0) (fits k) (λ same. differ (is ∙ same)) in
    let j : ℕ = found.0 in
    let bits = came_in (bit_at (get_or xs k 0) j) (bit_at (get_or ys k 0) j) (bit_at (bit_or (get_or xs k 0) (get_or ys k 0)) j) (bit_at_or (get_or xs k 0) (get_or ys k 0) j) (bit_at-lt (get_or xs k 0) j) (bit_at-lt (get_or ys k 0) j) found.2 in
    record {
      number = 64 * k + j;
      was_out = is_set-at xs k j found.1 ∙ bits.0;
      is_in = is_set-at new k j found.1 ∙ ap (λ w. bit_at w j == 1) is ∙ bits.1;
    }

-- whether a word changed is whether the set grew
pub grew-changed : (xs ys new : List ℕ) (changed : Bool) → UnionIn 0 (length xs) ys xs new → ChangedIn 0 (length xs) xs new changed → ((k : ℕ) → get_or ys k 0 < 2 ^ 64)
    → MatchBool changed (Grew xs new) (SameMembers xs new)
grew-changed xs ys new true u c fits = came_in-at xs ys new u c.0 c.2 c.3 fits
grew-changed xs ys new false u c fits =
    λ i. is_set-same new xs i (elim (cases_lt (i / 64) (length xs)) [ inl low ↦ c (i / 64) (omega arith) low | inr high ↦ u.above (i / 64) high ])

-- ---- one number

-- words of zeros have no bit set
zeros : (n k : ℕ) → get_or (replicate {A = ℕ} n 0) k 0 ≡ 0
zeros zero k = refl
zeros (suc n) zero = refl
zeros (suc n) (suc k) = zeros n k

pub is_set-zeros : (words : List ℕ) (n : ℕ) → words ≡ replicate n 0 → (i : ℕ) → is_set words i ≡ false
unfolding is_set
is_set-zeros words n e i =
    ap (λ ws. bit_at (get_or ws (i / 64) 0) (i % 64) == 1) e ∙ ap (λ w. bit_at w (i % 64) == 1) (zeros n (i / 64)) ∙ ap (λ b. b == 1) (bit_at-zero (i % 64))

-- the word of a number with its bit set
unfoldable pub with_number : List ℕ → ℕ → List ℕ
with_number words i = slice_set words (i / 64) (bit_or (get_or words (i / 64) 0) (1 * 2 ^ (i % 64) % 2 ^ 64))

same_bit : (words : List ℕ) (i : ℕ) → i / 64 < length words → is_set (with_number words i) i ≡ true
unfolding is_set with_number
same_bit words i within =
    ap (λ w. bit_at w (i % 64) == 1) (get_or-set_same words (i / 64) (bit_or (get_or words (i / 64) 0) (1 * 2 ^ (i % 64) % 2 ^ 64)) 0 within)
    ∙ ap (λ b. b == 1) (bit_at_set_same w64 (get_or words (i / 64) 0) (i % 64) (omega arith))

other_bit : (words : List ℕ) (i j : ℕ) → i / 64 < length words → j / 64 ≡ i / 64 → j % 64 ≢ i % 64 → is_set (with_number words i) j ≡ is_set words j
unfolding is_set with_number
other_bit words i j within same differ =
    let w = get_or words (i / 64) 0 in
    ap (λ k. bit_at (get_or (slice_set words (i / 64) (bit_or w (1 * 2 ^ (i % 64) % 2 ^ 64))) k 0) (j % 64) == 1) same
    ∙ ap (λ v. bit_at v (j % 64) == 1) (get_or-set_same words (i / 64) (bit_or w (1 * 2 ^ (i % 64) % 2 ^ 64)) 0 within)
    ∙ ap (λ b. b == 1) (bit_at_set_other w64 w (i % 64) (omega arith) (j % 64) differ)
    ∙ ap (λ k. bit_at (get_or words k 0) (j % 64) == 1) (sym same)

other_word : (words : List ℕ) (i j : ℕ) → j / 64 ≢ i / 64 → is_set (with_number words i) j ≡ is_set words j
unfolding is_set with_number
other_word words i j differ =
    ap (λ w. bit_at w (j % 64) == 1) (get_or-set_other words (i / 64) (j / 64) (bit_or (get_or words (i / 64) 0) (1 * 2 ^ (i % 64) % 2 ^ 64)) 0 differ)

-- setting the bit of a number adds that number alone
added : (words : List ℕ) (i j : ℕ) → i / 64 < length words → (here : Bool) → (j == i) ≡ here → is_set (with_number words i) j ≡ (here || is_set words j)
added words i j within true e =
    let is : i ≡ j = grind (arith, nat_tests) in
    ap (λ k. is_set (with_number words i) k) (sym is) ∙ same_bit words i within
added words i j within false e =
    let differ : j ≢ i = λ p. grind (arith, nat_tests) in
    elim (same_or_other (j / 64) (i / 64)) [
      | inl same ↦ other_bit words i j within same (λ rest. differ (omega arith))
      | inr other ↦ other_word words i j other
    ]
  where
    same_or_other : (m n : ℕ) → (m ≡ n) ⊎ (m ≢ n)
    same_or_other m n = elim (cases_lt m n) [ inl low ↦ inr (λ p. omega arith) | inr high ↦ at_least m n high ]
      where
        at_least : (m n : ℕ) → n ≤ m → (m ≡ n) ⊎ (m ≢ n)
        at_least m n h = elim (eq-or-lt_of_le h) [ inl same ↦ inl (sym same) | inr low ↦ inr (λ p. omega arith) ]

pub is_set-with_number : (words : List ℕ) (i : ℕ) → i / 64 < length words → (j : ℕ) → is_set (with_number words i) j ≡ ((j == i) || is_set words j)
is_set-with_number words i within j = added words i j within (j == i) refl

-- the word of a number with its bit cleared
unfoldable pub without_number : List ℕ → ℕ → List ℕ
without_number words i = slice_set words (i / 64) (bit_and (get_or words (i / 64) 0) (bit_not w64 (1 * 2 ^ (i % 64) % 2 ^ 64)))

cleared_bit : (words : List ℕ) (i : ℕ) → i / 64 < length words → is_set (without_number words i) i ≡ false
unfolding is_set without_number
cleared_bit words i within =
    ap (λ w. bit_at w (i % 64) == 1) (get_or-set_same words (i / 64) (bit_and (get_or words (i / 64) 0) (bit_not w64 (1 * 2 ^ (i % 64) % 2 ^ 64))) 0 within)
    ∙ ap (λ b. b == 1) (bit_at_clear_same w64 (get_or words (i / 64) 0) (i % 64) (omega arith))

stays_other_bit : (words : List ℕ) (i j : ℕ) → i / 64 < length words → j / 64 ≡ i / 64 → j % 64 ≢ i % 64 → is_set (without_number words i) j ≡ is_set words j
unfolding is_set without_number
stays_other_bit words i j within same differ =
    let w = get_or words (i / 64) 0 in
    ap (λ k. bit_at (get_or (slice_set words (i / 64) (bit_and w (bit_not w64 (1 * 2 ^ (i % 64) % 2 ^ 64)))) k 0) (j % 64) == 1) same
    ∙ ap (λ v. bit_at v (j % 64) == 1) (get_or-set_same words (i / 64) (bit_and w (bit_not w64 (1 * 2 ^ (i % 64) % 2 ^ 64))) 0 within)
    ∙ ap (λ b. b == 1) (bit_at_clear_other w64 w (i % 64) (omega arith) (j % 64) (omega arith) differ)
    ∙ ap (λ k. bit_at (get_or words k 0) (j % 64) == 1) (sym same)

stays_other_word : (words : List ℕ) (i j : ℕ) → j / 64 ≢ i / 64 → is_set (without_number words i) j ≡ is_set words j
unfolding is_set without_number
stays_other_word words i j differ =
    ap (λ w. bit_at w (j % 64) == 1) (get_or-set_other words (i / 64) (j / 64) (bit_and (get_or words (i / 64) 0) (bit_not w64 (1 * 2 ^ (i % 64) % 2 ^ 64))) 0 differ)

kept_but : (b : Bool) → (b && not false) ≡ b
kept_but true = refl
kept_but false = refl

lost : (b : Bool) → (b && not true) ≡ false
lost true = refl
lost false = refl

-- clearing the bit of a number takes out that number alone
taken_out : (words : List ℕ) (i j : ℕ) → i / 64 < length words → (here : Bool) → (j == i) ≡ here → is_set (without_number words i) j ≡ (is_set words j && not here)
taken_out words i j within true e =
    let is : i ≡ j = grind (arith, nat_tests) in
    ap (λ k. is_set (without_number words i) k) (sym is) ∙ cleared_bit words i within ∙ sym (lost (is_set words j))
taken_out words i j within false e =
    let differ : j ≢ i = λ p. grind (arith, nat_tests) in
    elim (cases_eq (j / 64) (i / 64)) [
      | inl same ↦ stays_other_bit words i j within same (λ rest. differ (omega arith))
      | inr other ↦ stays_other_word words i j other
    ] ∙ sym (kept_but (is_set words j))

pub is_set-without_number : (words : List ℕ) (i : ℕ) → i / 64 < length words → (j : ℕ) → is_set (without_number words i) j ≡ (is_set words j && not (j == i))
is_set-without_number words i within j = taken_out words i j within (j == i) refl
