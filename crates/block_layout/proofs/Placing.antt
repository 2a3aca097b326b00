-- Where blocks stand in an order.
use Rattle.std.proofs.Common.{◌≡◌, ◌≢◌, ℕ, zero, suc, ◌+◌, ◌-◌, ◌<◌, ◌≤◌, Bool, true, false, not, ◌&&◌, ◌||◌, nat_eq, nat_lt, if◌then◌else◌, List, [], ◌∷◌, length, drop, get_or, set, replicate, length-drop, Some, slice_get, refl, sym, ◌∙◌, ap, arith, unwrap_or}
use Rattle.std.specs.List.{list_all}
use Rattle.std.proofs.lemmas.Bool.Decides.{nat_tests}
use Rattle.std.proofs.lemmas.List.{get_or-set_other, get_or-replicate, get_or_past, length-replicate, get_or_default}
use Rattle.std.proofs.lemmas.Grind.{get_or-set_at}
use Rattle.std.proofs.lemmas.Option.{unwrap_or-slice_get}
use Rattle.std.proofs.lemmas.Bool.{and_parts, and_from, eqb-true, ltb-true, lt-ltb, le-ltb}
use Rattle.vcode.proofs.Lists.{item_next}
use Rattle.block_layout.specs.Ordered.{Order, place_in, is_named, names_once, kept_place, AreUnset, names_blocks}

-- ---- tests

other_number : (j k : ℕ) → nat_eq j k ≡ false → k ≢ j
other_number j k h = grind (arith, nat_tests)

not_below : (j k : ℕ) → nat_lt j k ≡ false → k ≤ j
not_below j k h = grind (arith, nat_tests)

pub one_more_below : (p n : ℕ) → nat_lt p n ≡ nat_lt (suc p) (suc n)
one_more_below p n = grind (arith, nat_tests)

-- ---- places

pub place_within : (order : Order) (k : ℕ) → place_in order k ≤ length order
place_within [] k = omega arith
place_within (j ∷ order) k = by (nat_eq j k) (place_within order k)
  where
    by : (b : Bool) → place_in order k ≤ length order → (if b then 0 else suc (place_in order k)) ≤ suc (length order)
    by true h = omega arith
    by false h = omega arith

pub named_place : (order : Order) (k : ℕ) → is_named order k ≡ nat_lt (place_in order k) (length order)
named_place [] k = refl
named_place (j ∷ order) k = by (nat_eq j k) (named_place order k)
  where
    by : (b : Bool) → is_named order k ≡ nat_lt (place_in order k) (length order) → (b || is_named order k) ≡ nat_lt (if b then 0 else suc (place_in order k)) (suc (length order))
    by true rest = sym (lt-ltb 0 (suc (length order)) (omega arith))
    by false rest = rest ∙ one_more_below (place_in order k) (length order)

pub at_place : (order : Order) (k : ℕ) → is_named order k ≡ true → slice_get order (place_in order k) ≡ Some k
at_place [] k h = absurd (let no : ⊥ = cc in no)
at_place (j ∷ order) k h = by (nat_eq j k) refl h (at_place order k)
  where
    by : (b : Bool) → nat_eq j k ≡ b → (b || is_named order k) ≡ true → (is_named order k ≡ true → slice_get order (place_in order k) ≡ Some k)
        → slice_get (j ∷ order) (if b then 0 else suc (place_in order k)) ≡ Some k
    by true e named rest = ap (λ i. Some i) (eqb-true j k e)
    by false e named rest = rest named

-- a test that each number of the order passes
pub all_named : (test : ℕ → Bool) (order : Order) (k : ℕ) → list_all test order ≡ true → is_named order k ≡ true → test k ≡ true
all_named test [] k all h = absurd (let no : ⊥ = cc in no)
all_named test (j ∷ order) k all h =
    let s = and_parts (test j) (list_all test order) all in by (nat_eq j k) refl h s.0 (all_named test order k s.1)
  where
    by : (b : Bool) → nat_eq j k ≡ b → (b || is_named order k) ≡ true → test j ≡ true → (is_named order k ≡ true → test k ≡ true) → test k ≡ true
    by true e named first rest = ap test (sym (eqb-true j k e)) ∙ first
    by false e named first rest = rest named

-- ---- places as they are kept

pub all_unset : (order : Order) (n : ℕ) → AreUnset order (replicate n (length order))
all_unset order n k = unwrap_or-slice_get (replicate n (length order)) k (length order) ∙ by (nat_lt k n) refl
  where
    by : (b : Bool) → nat_lt k n ≡ b → get_or (replicate n (length order)) k (length order) ≡ length order
    by true e = get_or-replicate n k (length order) (length order) (ltb-true k n e)
    by false e = get_or_past (replicate n (length order)) k (length order) (let m = length-replicate n (length order) in let high = not_below k n e in omega arith)

after_set : (old : List ℕ) (j v k n : ℕ) → j < length old → unwrap_or (slice_get (set old j v) k) n ≡ (if nat_eq j k then v else unwrap_or (slice_get old k) n)
after_set old j v k n low = unwrap_or-slice_get (set old j v) k n ∙ by (nat_eq j k) refl
  where
    by : (b : Bool) → nat_eq j k ≡ b → get_or (set old j v) k n ≡ (if b then v else unwrap_or (slice_get old k) n)
    by true e = get_or-set_at old j k v n (sym (eqb-true j k e)) low
    by false e = get_or-set_other old j k v n (other_number j k e) ∙ sym (unwrap_or-slice_get old k n)

-- the items from one further up on
pub item_above : (order : Order) (i j : ℕ) → 0 < i → i ≤ length order → j ≡ get_or order (i - 1) j → drop (i - 1) order ≡ j ∷ drop i order
item_above order i j low high at =
    item_next order (i - 1) j (omega arith) at ∙ ap (λ k. j ∷ drop k order) (let e : i - 1 + 1 ≡ i = omega arith in e)

pub kept_at : (order : Order) (places : List ℕ) (k x d : ℕ) → k < length places → x ≡ get_or places k d → kept_place order places k ≡ x
kept_at order places k x d low at =
    unwrap_or-slice_get places k (length order) ∙ get_or_default places k (length order) d low ∙ sym at

-- a block that is written where it stands
pub places_above : (order : Order) (old new : List ℕ) (i j : ℕ) → 0 < i → i ≤ length order → j ≡ get_or order (i - 1) j → j < length old → new ≡ set old j (i - 1)
    → ((k : ℕ) → kept_place order old k ≡ i + place_in (drop i order) k) → (k : ℕ) → kept_place order new k ≡ i - 1 + place_in (drop (i - 1) order) k
places_above order old new i j low high at there written before k =
    ap (λ ps. kept_place order ps k) written ∙ after_set old j (i - 1) k (length order) there ∙ by (nat_eq j k)
    ∙ ap (λ rest. i - 1 + place_in rest k) (sym (item_above order i j low high at))
  where
    by : (b : Bool) → (if b then i - 1 else kept_place order old k) ≡ i - 1 + (if b then 0 else suc (place_in (drop i order) k))
    by true = omega arith
    by false = before k ∙ (let e : i + place_in (drop i order) k ≡ i - 1 + suc (place_in (drop i order) k) = omega arith in e)

-- where nothing is kept yet, the block isn't named further down
unnamed_below : (order : Order) (old : List ℕ) (i j : ℕ) → i ≤ length order → kept_place order old j ≡ i + place_in (drop i order) j → length order ≤ kept_place order old j → is_named (drop i order) j ≡ false
unnamed_below order old i j high is none =
    let short = length-drop i order in
    named_place (drop i order) j ∙ le-ltb (place_in (drop i order) j) (length (drop i order)) (omega arith)

named_below : (order : Order) (old : List ℕ) (i j : ℕ) → i ≤ length order → kept_place order old j ≡ i + place_in (drop i order) j → kept_place order old j < length order → is_named (drop i order) j ≡ true
named_below order old i j high is some =
    let short = length-drop i order in
    named_place (drop i order) j ∙ lt-ltb (place_in (drop i order) j) (length (drop i order)) (omega arith)

pub names_above : (order : Order) (old : List ℕ) (n i j : ℕ) → 0 < i → i ≤ length order → j ≡ get_or order (i - 1) j → j < n → kept_place order old j ≡ i + place_in (drop i order) j
    → length order ≤ kept_place order old j → names_blocks (drop i order) n ≡ true → names_blocks (drop (i - 1) order) n ≡ true
names_above order old n i j low high at there is none before =
    let rest = drop i order in
    let s = and_parts (names_once rest) (list_all (λ k. nat_lt k n) rest) before in
    ap (λ xs. names_blocks xs n) (item_above order i j low high at)
    ∙ and_from (not (is_named rest j) && names_once rest) (nat_lt j n && list_all (λ k. nat_lt k n) rest)
    (and_from (not (is_named rest j)) (names_once rest) (ap not (unnamed_below order old i j high is none)) s.0)
    (and_from (nat_lt j n) (list_all (λ k. nat_lt k n) rest) (lt-ltb j n there) s.1)

drop_two : (a b c d : Bool) → (b && d) ≡ false → ((a && b) && (c && d)) ≡ false
drop_two false b c d h = refl
drop_two true false c d h = refl
drop_two true true true d h = h
drop_two true true false d h = refl

-- a part of the order that isn't one shows that the whole is none
fails_whole : (n i : ℕ) (order : Order) → names_blocks (drop i order) n ≡ false → names_blocks order n ≡ false
fails_whole n zero order h = h
fails_whole n (suc i) [] h = h
fails_whole n (suc i) (k ∷ order) h =
    drop_two (not (is_named order k)) (names_once order) (nat_lt k n) (list_all (λ k. nat_lt k n) order) (fails_whole n i order h)

second_no : (a b c d : Bool) → a ≡ false → ((a && b) && (c && d)) ≡ false
second_no true b c d h = absurd (let no : ⊥ = cc in no)
second_no false b c d h = refl

third_no : (a b c d : Bool) → c ≡ false → ((a && b) && (c && d)) ≡ false
third_no true true true d h = absurd (let no : ⊥ = cc in no)
third_no true true false d h = refl
third_no true false c d h = refl
third_no false b c d h = refl

-- a block that is named twice
pub named_twice : (order : Order) (old : List ℕ) (n i j : ℕ) → 0 < i → i ≤ length order → j ≡ get_or order (i - 1) j → kept_place order old j ≡ i + place_in (drop i order) j
    → kept_place order old j < length order → names_blocks order n ≡ false
named_twice order old n i j low high at is some =
    let rest = drop i order in
    fails_whole n (i - 1) order
    (ap (λ xs. names_blocks xs n) (item_above order i j low high at)
    ∙ second_no (not (is_named rest j)) (names_once rest) (nat_lt j n) (list_all (λ k. nat_lt k n) rest) (ap not (named_below order old i j high is some)))

-- a block that isn't there
pub not_there : (order : Order) (n i j : ℕ) → 0 < i → i ≤ length order → j ≡ get_or order (i - 1) j → n ≤ j → names_blocks order n ≡ false
not_there order n i j low high at past =
    let rest = drop i order in
    fails_whole n (i - 1) order
    (ap (λ xs. names_blocks xs n) (item_above order i j low high at)
    ∙ third_no (not (is_named rest j)) (names_once rest) (nat_lt j n) (list_all (λ k. nat_lt k n) rest) (le-ltb j n past))
