-- Blocks beside their numbers.
use Rattle.std.proofs.Common.{◌≡◌, ◌≢◌, ℕ, zero, suc, ◌+◌, ◌<◌, ◌≤◌, Bool, true, false, cond, ◌⊎◌, inl, inr, List, [], ◌∷◌, ◌++◌, length, get_or, refl, ap, sym, subst, ◌∙◌, arith, length-append, length-set, slice_get, slice_set, slice_index, nat_eq, is_some, Option, Some, None, remove, option_map, option_and_then}
use Rattle.std.proofs.lemmas.Bool.{cases_eq, cases_lt}
use Rattle.std.proofs.lemmas.Bool.Decides.{nat_tests}
use Rattle.std.proofs.lemmas.List.{get_or_append_left, get_or_push}
use Rattle.std.proofs.lemmas.List.Edits.{length-remove, get_or-remove_below, get_or-remove_above}
use Rattle.std.proofs.lemmas.Option.{slice_get_read}
use Rattle.il_ast.specs.declared.value.Cell.{Cell}
use Rattle.il_ast.specs.Prelude.{Memory, block_at, free, span}
use Rattle.il_mem.specs.Changed.{blocks, cells_put, Changes, ChangesBlock, copied_place, Gives, found, Rising, Numbered}
use Rattle.il_mem.proofs.BlocksLemmas.{block_at-blocks, block_at-past, blocks-set, fresh_made, copy_across_is, gives}

same_number : (n q : ℕ) → n ≡ q → nat_eq n q ≡ true
same_number n q e = grind (arith, nat_tests)

other_number : (n q : ℕ) → n ≢ q → nat_eq n q ≡ false
other_number n q ne = grind (arith, nat_tests)

-- no block has a number that isn't there
pub missing : (ns : List ℕ) (bs : List (List Cell)) (q : ℕ) → ((k : ℕ) → k < length ns → slice_index ns k ≢ q) → found ns bs q ≡ None
missing [] bs q h = refl
missing (n ∷ ns) [] q h = refl
missing (n ∷ ns) (b ∷ bs) q h =
    let no : nat_eq n q ≡ false = other_number n q (h zero (omega arith)) in
    ap (λ t. cond t (Some b) (found ns bs q)) no ∙ missing ns bs q (λ k lt. h (suc k) (omega arith))

-- the block of a number stands at the number's place
pub stands : (ns : List ℕ) (bs : List (List Cell)) (at q : ℕ) → Rising ns → length bs ≡ length ns → at < length ns → slice_index ns at ≡ q → found ns bs q ≡ slice_get bs at
stands [] bs at q up many lt e = absurd (omega arith)
stands (n ∷ ns) [] at q up many lt e = absurd (omega arith)
stands (n ∷ ns) (b ∷ bs) zero q up many lt e = ap (λ t. cond t (Some b) (found ns bs q)) (same_number n q e)
stands (n ∷ ns) (b ∷ bs) (suc at) q up many lt e =
    let below : n < slice_index ns at = up zero (suc at) (omega arith) (omega arith) in
    let no : nat_eq n q ≡ false = other_number n q (λ same. omega arith) in
    ap (λ t. cond t (Some b) (found ns bs q)) no
    ∙ stands ns bs at q (λ i j lower high. up (suc i) (suc j) (omega arith) (omega arith)) (omega arith) (omega arith) e

-- ---- blocks that change

same_everywhere : (ns : List ℕ) (old new : List (List Cell)) (q : ℕ) → ((k : ℕ) → slice_get new k ≡ slice_get old k) → found ns new q ≡ found ns old q
same_everywhere [] old new q h = refl
same_everywhere (n ∷ ns) [] [] q h = refl
same_everywhere (n ∷ ns) [] (y ∷ new) q h = let bad : Some y ≡ None = h zero in cc
same_everywhere (n ∷ ns) (x ∷ old) [] q h = let bad : None ≡ Some x = h zero in cc
same_everywhere (n ∷ ns) (x ∷ old) (y ∷ new) q h =
    ap (λ o. cond (nat_eq n q) o (found ns new q)) (h zero)
    ∙ ap (λ r. cond (nat_eq n q) (Some x) r) (same_everywhere ns old new q (λ k. h (suc k)))

-- another block stays
others_stay : (ns : List ℕ) (old new : List (List Cell)) (at key q : ℕ) → slice_index ns at ≡ key → q ≢ key → ((k : ℕ) → k ≢ at → slice_get new k ≡ slice_get old k) → found ns new q ≡ found ns old q
others_stay [] old new at key q e ne h = refl
others_stay (n ∷ ns) [] [] at key q e ne h = refl
others_stay (n ∷ ns) [] (y ∷ new) zero key q e ne h =
    let no : nat_eq n q ≡ false = other_number n q (λ same. ne (sym same ∙ e)) in
    ap (λ t. cond t (Some y) (found ns new q)) no ∙ (same_everywhere ns [] new q (λ k. h (suc k) (λ z. omega arith)) ∙ nothing ns)
  where
    nothing : (ms : List ℕ) → found ms [] q ≡ None
    nothing [] = refl
    nothing (m ∷ ms) = refl
others_stay (n ∷ ns) (x ∷ old) [] zero key q e ne h =
    let no : nat_eq n q ≡ false = other_number n q (λ same. ne (sym same ∙ e)) in
    sym (ap (λ t. cond t (Some x) (found ns old q)) no
    ∙ (sym (same_everywhere ns old [] q (λ k. h (suc k) (λ z. omega arith))) ∙ nothing ns))
  where
    nothing : (ms : List ℕ) → found ms [] q ≡ None
    nothing [] = refl
    nothing (m ∷ ms) = refl
others_stay (n ∷ ns) (x ∷ old) (y ∷ new) zero key q e ne h =
    let no : nat_eq n q ≡ false = other_number n q (λ same. ne (sym same ∙ e)) in
    ap (λ t. cond t (Some y) (found ns new q)) no
    ∙ (same_everywhere ns old new q (λ k. h (suc k) (λ z. omega arith))
    ∙ sym (ap (λ t. cond t (Some x) (found ns old q)) no))
others_stay (n ∷ ns) [] (y ∷ new) (suc at) key q e ne h = let bad : Some y ≡ None = h zero (λ z. omega arith) in cc
others_stay (n ∷ ns) (x ∷ old) [] (suc at) key q e ne h = let bad : None ≡ Some x = h zero (λ z. omega arith) in cc
others_stay (n ∷ ns) (x ∷ old) (y ∷ new) (suc at) key q e ne h =
    ap (λ o. cond (nat_eq n q) o (found ns new q)) (h zero (λ z. omega arith))
    ∙ ap (λ r. cond (nat_eq n q) (Some x) r)
    (others_stay ns old new at key q e ne (λ k nk. h (suc k) (λ same. nk (omega arith))))

-- the block at a number's place changes: so does the one of that number
pub changes_found : (F : List Cell → Option (List Cell)) (ns : List ℕ) (old new : List (List Cell)) (at key : ℕ) (r : Bool) → Rising ns → length old ≡ length ns → length new ≡ length ns → at < length ns → slice_index ns at ≡ key → Changes F (slice_get old) (slice_get new) at r → Changes F (found ns old) (found ns new) key r
changes_found F ns old new at key r up many kept lt e h =
    let before : found ns old key ≡ slice_get old at = stands ns old at key up many lt e in
    let behind : found ns new key ≡ slice_get new at = stands ns new at key up kept lt e in
    record {
      done = λ t. behind ∙ (h.done t ∙ ap (option_and_then F) (sym before));
      found = h.found ∙ ap (λ o. is_some (option_and_then F o)) (sym before);
      stays = λ t. behind ∙ (h.stays t ∙ sym before);
      others = λ q ne. others_stay ns old new at key q e ne h.others;
    }

-- ---- one block of a list that changes

pub set_here : {A : Type 0} (xs : List A) (at : ℕ) (x : A) → at < length xs → slice_get (slice_set xs at x) at ≡ Some x
set_here [] at x lt = absurd (omega arith)
set_here (y ∷ xs) zero x lt = refl
set_here (y ∷ xs) (suc at) x lt = set_here xs at x (omega arith)

pub set_other : {A : Type 0} (xs : List A) (at k : ℕ) (x : A) → k ≢ at → slice_get (slice_set xs at x) k ≡ slice_get xs k
set_other [] at k x ne = refl
set_other (y ∷ xs) zero zero x ne = absurd (ne refl)
set_other (y ∷ xs) zero (suc k) x ne = refl
set_other (y ∷ xs) (suc at) zero x ne = refl
set_other (y ∷ xs) (suc at) (suc k) x ne = set_other xs at k x (λ e. ne (omega arith))

verdict : (new : List Cell) (r : Bool) (o : Option (List Cell)) → (r ≡ true → o ≡ Some new) → (r ≡ false → o ≡ None) → r ≡ is_some o
verdict new true o d n = sym (ap is_some (d refl))
verdict new false o d n = sym (ap is_some (n refl))

pub changes_at : (F : List Cell → Option (List Cell)) (bs changed : List (List Cell)) (at : ℕ) (old new : List Cell) (r : Bool) → slice_get bs at ≡ Some old → slice_get changed at ≡ Some new → ((k : ℕ) → k ≢ at → slice_get changed k ≡ slice_get bs k) → ChangesBlock F old new r → Changes F (slice_get bs) (slice_get changed) at r
changes_at F bs changed at old new r was is rest h =
    record {
      done = λ t. is ∙ (sym (h.done t) ∙ ap (option_and_then F) (sym was));
      found = verdict new r (F old) h.done h.nothing ∙ ap (λ o. is_some (option_and_then F o)) (sym was);
      stays = λ t. is ∙ (ap (λ x. Some x) (h.stays t) ∙ sym was);
      others = rest;
    }

-- ---- all blocks by their numbers

pub block_is : (ns : List ℕ) (bs : List (List Cell)) (made q : ℕ) → Numbered ns bs made → block_at (blocks (found ns bs) 0 made) q ≡ found ns bs q
block_is ns bs made q h = by_cases (cases_lt q made)
  where
    by_cases : (q < made) ⊎ (made ≤ q) → block_at (blocks (found ns bs) 0 made) q ≡ found ns bs q
    by_cases (inl lt) = block_at-blocks (found ns bs) made q lt
    by_cases (inr le) =
        block_at-past (found ns bs) made q le
        ∙ sym (missing ns bs q (λ k lt same. let low : slice_index ns k < made = h.below k lt in omega arith))

-- a block more
pub pushed : (ns : List ℕ) (bs : List (List Cell)) (made q : ℕ) (b : List Cell) → length bs ≡ length ns → q ≢ made → found (ns ++ made ∷ []) (bs ++ b ∷ []) q ≡ found ns bs q
pushed [] [] made q b many ne =
    let no : nat_eq made q ≡ false = other_number made q (λ e. ne (sym e)) in ap (λ t. cond t (Some b) None) no
pushed [] (x ∷ bs) made q b many ne = absurd (omega arith)
pushed (n ∷ ns) [] made q b many ne = absurd (omega arith)
pushed (n ∷ ns) (x ∷ bs) made q b many ne = ap (λ r. cond (nat_eq n q) (Some x) r) (pushed ns bs made q b (omega arith) ne)

pub pushed_here : (ns : List ℕ) (bs : List (List Cell)) (made : ℕ) (b : List Cell) → length bs ≡ length ns → ((k : ℕ) → k < length ns → slice_index ns k < made) → found (ns ++ made ∷ []) (bs ++ b ∷ []) made ≡ Some b
pushed_here [] [] made b many low = ap (λ t. cond t (Some b) None) (same_number made made refl)
pushed_here [] (x ∷ bs) made b many low = absurd (omega arith)
pushed_here (n ∷ ns) [] made b many low = absurd (omega arith)
pushed_here (n ∷ ns) (x ∷ bs) made b many low =
    let under : n < made = low zero (omega arith) in
    let no : nat_eq n made ≡ false = other_number n made (λ e. omega arith) in
    ap (λ t. cond t (Some x) (found (ns ++ made ∷ []) (bs ++ b ∷ []) made)) no
    ∙ pushed_here ns bs made b (omega arith) (λ k lt. low (suc k) (omega arith))

last_index : (ns : List ℕ) (m k : ℕ) → k ≡ length ns → slice_index (ns ++ m ∷ []) k ≡ m
last_index ns m k e = get_or_push ns m 0 k (sym e)

front_index : (ns : List ℕ) (m k : ℕ) → k < length ns → slice_index (ns ++ m ∷ []) k ≡ slice_index ns k
front_index ns m k lt = get_or_append_left ns (m ∷ []) 0 k lt

pub numbered_push : (ns : List ℕ) (bs : List (List Cell)) (made : ℕ) (b : List Cell) → Numbered ns bs made → Numbered (ns ++ made ∷ []) (bs ++ b ∷ []) (made + 1)
numbered_push ns bs made b h =
    let long : length (ns ++ made ∷ []) ≡ length ns + 1 = length-append ns (made ∷ []) in
    let tall : length (bs ++ b ∷ []) ≡ length bs + 1 = length-append bs (b ∷ []) in
    let many : length bs ≡ length ns = h.as_many in
    record {
      as_many = omega arith;
      rising = λ i j lt inside. by_last i j lt (omega arith) (cases_lt j (length ns));
      below = λ k inside. under k (omega arith) (cases_lt k (length ns));
    }
  where
    by_last : (i j : ℕ) → i < j → j ≤ length ns → (j < length ns) ⊎ (length ns ≤ j) → slice_index (ns ++ made ∷ []) i < slice_index (ns ++ made ∷ []) j
    by_last i j lt le (inl inside) =
        let a : slice_index (ns ++ made ∷ []) i ≡ slice_index ns i = front_index ns made i (omega arith) in
        let z : slice_index (ns ++ made ∷ []) j ≡ slice_index ns j = front_index ns made j inside in
        let up : slice_index ns i < slice_index ns j = h.rising i j lt inside in
        omega arith
    by_last i j lt le (inr last) =
        let a : slice_index (ns ++ made ∷ []) i ≡ slice_index ns i = front_index ns made i (omega arith) in
        let z : slice_index (ns ++ made ∷ []) j ≡ made = last_index ns made j (omega arith) in
        let up : slice_index ns i < made = h.below i (omega arith) in
        omega arith

    under : (k : ℕ) → k ≤ length ns → (k < length ns) ⊎ (length ns ≤ k) → slice_index (ns ++ made ∷ []) k < made + 1
    under k le (inl inside) =
        let a : slice_index (ns ++ made ∷ []) k ≡ slice_index ns k = front_index ns made k inside in
        let low : slice_index ns k < made = h.below k inside in
        omega arith
    under k le (inr last) =
        let z : slice_index (ns ++ made ∷ []) k ≡ made = last_index ns made k (omega arith) in
        omega arith

-- a block less
pub removed : (ns : List ℕ) (bs : List (List Cell)) (at q : ℕ) → length bs ≡ length ns → at < length ns → q ≢ slice_index ns at → found (remove ns at) (remove bs at) q ≡ found ns bs q
removed [] bs at q many lt ne = absurd (omega arith)
removed (n ∷ ns) [] at q many lt ne = absurd (omega arith)
removed (n ∷ ns) (b ∷ bs) zero q many lt ne =
    let no : nat_eq n q ≡ false = other_number n q (λ e. ne (sym e)) in
    sym (ap (λ t. cond t (Some b) (found ns bs q)) no)
removed (n ∷ ns) (b ∷ bs) (suc at) q many lt ne =
    ap (λ r. cond (nat_eq n q) (Some b) r) (removed ns bs at q (omega arith) (omega arith) ne)

pub numbered_remove : (ns : List ℕ) (bs : List (List Cell)) (made at : ℕ) → at < length ns → Numbered ns bs made → Numbered (remove ns at) (remove bs at) made
numbered_remove ns bs made at lt h =
    let many : length bs ≡ length ns = h.as_many in
    let long : length (remove ns at) + 1 ≡ length ns = length-remove ns at lt in
    let tall : length (remove bs at) + 1 ≡ length bs = length-remove bs at (omega arith) in
    record {
      as_many = omega arith;
      rising = λ i j low inside. up i j low (omega arith) (cases_lt i at) (cases_lt j at);
      below = λ k inside. under k (omega arith) (cases_lt k at);
    }
  where
    up : (i j : ℕ) → i < j → j + 1 < length ns → (i < at) ⊎ (at ≤ i) → (j < at) ⊎ (at ≤ j) → slice_index (remove ns at) i < slice_index (remove ns at) j
    up i j low inside (inl a) (inl b) =
        let e : slice_index (remove ns at) i ≡ slice_index ns i = get_or-remove_below ns at 0 i a lt in
        let f : slice_index (remove ns at) j ≡ slice_index ns j = get_or-remove_below ns at 0 j b lt in
        let rise : slice_index ns i < slice_index ns j = h.rising i j low (omega arith) in
        omega arith
    up i j low inside (inl a) (inr b) =
        let e : slice_index (remove ns at) i ≡ slice_index ns i = get_or-remove_below ns at 0 i a lt in
        let f : slice_index (remove ns at) j ≡ slice_index ns (j + 1) = get_or-remove_above ns at 0 j b lt in
        let rise : slice_index ns i < slice_index ns (j + 1) = h.rising i (j + 1) (omega arith) (omega arith) in
        omega arith
    up i j low inside (inr a) (inl b) = absurd (omega arith)
    up i j low inside (inr a) (inr b) =
        let e : slice_index (remove ns at) i ≡ slice_index ns (i + 1) = get_or-remove_above ns at 0 i a lt in
        let f : slice_index (remove ns at) j ≡ slice_index ns (j + 1) = get_or-remove_above ns at 0 j b lt in
        let rise : slice_index ns (i + 1) < slice_index ns (j + 1) = h.rising (i + 1) (j + 1) (omega arith) (omega arith) in
        omega arith

    under : (k : ℕ) → k + 1 < length ns → (k < at) ⊎ (at ≤ k) → slice_index (remove ns at) k < made
    under k inside (inl a) =
        let e : slice_index (remove ns at) k ≡ slice_index ns k = get_or-remove_below ns at 0 k a lt in
        let low : slice_index ns k < made = h.below k (omega arith) in
        omega arith
    under k inside (inr a) =
        let e : slice_index (remove ns at) k ≡ slice_index ns (k + 1) = get_or-remove_above ns at 0 k a lt in
        let low : slice_index ns (k + 1) < made = h.below (k + 1) (omega arith) in
        omega arith

-- its number is no longer there
pub removed_here : (ns : List ℕ) (bs : List (List Cell)) (at : ℕ) → Rising ns → at < length ns → found (remove ns at) (remove bs at) (slice_index ns at) ≡ None
removed_here ns bs at up lt =
    let long : length (remove ns at) + 1 ≡ length ns = length-remove ns at lt in
    missing (remove ns at) (remove bs at) (slice_index ns at) (λ k inside. apart k (omega arith) (cases_lt k at))
  where
    apart : (k : ℕ) → k + 1 < length ns → (k < at) ⊎ (at ≤ k) → slice_index (remove ns at) k ≢ slice_index ns at
    apart k inside (inl a) same =
        let e : slice_index (remove ns at) k ≡ slice_index ns k = get_or-remove_below ns at 0 k a lt in
        let rise : slice_index ns k < slice_index ns at = up k at a lt in
        omega arith
    apart k inside (inr a) same =
        let e : slice_index (remove ns at) k ≡ slice_index ns (k + 1) = get_or-remove_above ns at 0 k a lt in
        let rise : slice_index ns at < slice_index ns (k + 1) = up at (k + 1) (omega arith) (omega arith) in
        omega arith

-- ---- as the memory sees it

at_place : (shown ns : List ℕ) (at q : ℕ) → shown ≡ ns → (at < length shown) × (slice_index shown at ≡ q) → (at < length ns) × (slice_index ns at ≡ q)
at_place shown ns at q e h = let P : List ℕ → Type 0 = λ xs. (at < length xs) × (slice_index xs at ≡ q) in subst P e h

pub block_found : (shown ns : List ℕ) (bs : List (List Cell)) (made q at : ℕ) (x : List Cell) (m : Memory) → shown ≡ ns → Numbered ns bs made → (at < length shown) × (slice_index shown at ≡ q) → x ≡ get_or bs at x → blocks (found ns bs) 0 made ≡ m → block_at m q ≡ Some x
block_found shown ns bs made q at x m e h place is view =
    let there : (at < length ns) × (slice_index ns at ≡ q) = at_place shown ns at q e place in
    let many : length bs ≡ length ns = h.as_many in
    ap (λ (k : Memory). block_at k q) (sym view)
    ∙ (block_is ns bs made q h
    ∙ (stands ns bs at q h.rising many there.0 there.1
    ∙ slice_get_read bs (length bs) at x refl (let lt : at < length ns = there.0 in omega arith) is))

pub block_missing : (shown ns : List ℕ) (bs : List (List Cell)) (made q : ℕ) (m : Memory) → shown ≡ ns → Numbered ns bs made → ((k : ℕ) → k < length shown → slice_index shown k ≢ q) → blocks (found ns bs) 0 made ≡ m → block_at m q ≡ None
block_missing shown ns bs made q m e h none view =
    let P : List ℕ → Type 0 = λ xs. (k : ℕ) → k < length xs → slice_index xs k ≢ q in
    ap (λ (k : Memory). block_at k q) (sym view) ∙ (block_is ns bs made q h ∙ missing ns bs q (subst P e none))

pub numbered_set : (ns : List ℕ) (old new : List (List Cell)) (made : ℕ) → length new ≡ length old → Numbered ns old made → Numbered ns new made
numbered_set ns old new made e h = record { as_many = e ∙ h.as_many; rising = h.rising; below = h.below }

-- a block that was changed at its place
pub gives_changed : (F : List Cell → Option (List Cell)) (shown ns : List ℕ) (old new : List (List Cell)) (made q at : ℕ) (r : Bool) (wanted : Option Memory) → shown ≡ ns → Numbered ns old made → (at < length shown) × (slice_index shown at ≡ q) → length new ≡ length old → Changes F (slice_get old) (slice_get new) at r → wanted ≡ option_map (λ cells. slice_set (blocks (found ns old) 0 made) q (Some cells)) (option_and_then F (found ns old q)) → Gives wanted (blocks (found ns old) 0 made) (blocks (found ns new) 0 made) r
gives_changed F shown ns old new made q at r wanted e h place long ch is =
    let there : (at < length ns) × (slice_index ns at ≡ q) = at_place shown ns at q e place in
    gives F (found ns old) (found ns new) made q r wanted
    (changes_found F ns old new at q r h.rising h.as_many (long ∙ h.as_many) there.0 there.1 ch) is

pub gives_set : (F : List Cell → Option (List Cell)) (shown ns : List ℕ) (old : List (List Cell)) (made q at : ℕ) (before after : List Cell) (r : Bool) (wanted : Option Memory) → shown ≡ ns → Numbered ns old made → (at < length shown) × (slice_index shown at ≡ q) → before ≡ get_or old at before → ChangesBlock F before after r → wanted ≡ option_map (λ cells. slice_set (blocks (found ns old) 0 made) q (Some cells)) (option_and_then F (found ns old q)) → Gives wanted (blocks (found ns old) 0 made) (blocks (found ns (slice_set old at after)) 0 made) r
gives_set F shown ns old made q at before after r wanted e h place is ch w =
    let there : (at < length ns) × (slice_index ns at ≡ q) = at_place shown ns at q e place in
    let lt : at < length ns = there.0 in
    let many : length old ≡ length ns = h.as_many in
    let inside : at < length old = omega arith in
    gives_changed F shown ns old (slice_set old at after) made q at r wanted e h place (length-set old at after)
    (changes_at F old (slice_set old at after) at before after r (slice_get_read old (length old) at before refl inside is)
    (set_here old at after inside) (λ k ne. set_other old at k after ne) ch) w

-- a number that is there was made
pub was_made : (shown ns : List ℕ) (bs : List (List Cell)) (made q at : ℕ) → shown ≡ ns → Numbered ns bs made → (at < length shown) × (slice_index shown at ≡ q) → q < made
was_made shown ns bs made q at e h place =
    let there : (at < length ns) × (slice_index ns at ≡ q) = at_place shown ns at q e place in
    let low : slice_index ns at < made = h.below at there.0 in
    let same : slice_index ns at ≡ q = there.1 in
    omega arith

-- two places have two numbers
pub apart : (ns : List ℕ) (i j : ℕ) → Rising ns → i < length ns → j < length ns → i ≢ j → slice_index ns i ≢ slice_index ns j
apart ns i j up li lj ne same = by_order (cases_lt i j)
  where
    by_order : (i < j) ⊎ (j ≤ i) → ⊥
    by_order (inl lt) = let rise : slice_index ns i < slice_index ns j = up i j lt lj in omega arith
    by_order (inr le) = let rise : slice_index ns j < slice_index ns i = up j i (omega arith) li in omega arith

-- ---- a search by halves

pub never_falls : (ns : List ℕ) → Rising ns → (i j : ℕ) → i ≤ j → j < length ns → get_or ns i 0 ≤ get_or ns j 0
never_falls ns up i j le lt = by_order (cases_lt i j)
  where
    by_order : (i < j) ⊎ (j ≤ i) → get_or ns i 0 ≤ get_or ns j 0
    by_order (inl less) = let rise : slice_index ns i < slice_index ns j = up i j less lt in omega arith
    by_order (inr more) =
        let same : i ≡ j = omega arith in
        let e : get_or ns i 0 ≡ get_or ns j 0 = ap (λ (k : ℕ). get_or ns k 0) same in omega arith

pub not_there : (ns : List ℕ) (q i : ℕ) → (i ≤ length ns) × ((k : ℕ) → k < i → get_or ns k 0 < q) × ((k : ℕ) → i ≤ k → k < length ns → q < get_or ns k 0) → (k : ℕ) → k < length ns → slice_index ns k ≢ q
not_there ns q i h k lt same = by_order (cases_lt k i)
  where
    by_order : (k < i) ⊎ (i ≤ k) → ⊥
    by_order (inl low) = let before : get_or ns k 0 < q = h.1 k low in omega arith
    by_order (inr high) = let behind : q < get_or ns k 0 = h.2 k high lt in omega arith

-- ---- two blocks, of which one is taken out while the other one changes

pub transferred : (F : List Cell → Option (List Cell)) (bs out mid new : List (List Cell)) (s t : ℕ) (source target after : List Cell) (r : Bool) → s < length bs → t < length bs → s ≢ t → slice_get bs s ≡ Some source → out ≡ slice_set bs s [] → slice_get out t ≡ Some target → mid ≡ slice_set out t after → new ≡ slice_set mid s source → ChangesBlock F target after r → Changes F (slice_get bs) (slice_get new) t r
transferred F bs out mid new s t source target after r ls lt ne was eo is em en ch =
    let lo : length out ≡ length bs = ap length eo ∙ length-set bs s [] in
    let was_target : slice_get bs t ≡ Some target =
    sym (set_other bs s t [] (λ e. ne (sym e))) ∙ (ap (λ xs. slice_get xs t) (sym eo) ∙ is) in
    changes_at F bs new t target after r was_target
    (ap (λ xs. slice_get xs t) en
    ∙ (set_other mid s t source (λ e. ne (sym e))
    ∙ (ap (λ xs. slice_get xs t) em ∙ set_here out t after (omega arith))))
    (λ k nk. others k nk (cases_eq k s)) ch
  where
    others : (k : ℕ) → k ≢ t → (k ≡ s) ⊎ (k ≢ s) → slice_get new k ≡ slice_get bs k
    others k nk (inl e) =
        let long : length mid ≡ length bs = ap length em ∙ (length-set out t after ∙ (ap length eo ∙ length-set bs s [])) in
        ap (slice_get new) e
        ∙ (ap (λ xs. slice_get xs s) en ∙ (set_here mid s source (omega arith) ∙ (sym was ∙ ap (slice_get bs) (sym e))))
    others k nk (inr ns) =
        ap (λ xs. slice_get xs k) en
        ∙ (set_other mid s k source ns
        ∙ (ap (λ xs. slice_get xs k) em
        ∙ (set_other out t k after nk ∙ (ap (λ xs. slice_get xs k) eo ∙ set_other bs s k [] ns))))

pub numbered_none : (ns : List ℕ) (bs : List (List Cell)) → ns ≡ [] → bs ≡ [] → Numbered ns bs 0
numbered_none ns bs en eb =
    let none : length ns ≡ 0 = ap length en in
    record {
      as_many = ap length eb ∙ sym none;
      rising = λ i j lt inside. absurd (omega arith);
      below = λ k inside. absurd (omega arith);
    }

-- ---- blocks made and dead

pub numbered_pushed : (ns more : List ℕ) (bs all : List (List Cell)) (made : ℕ) (b : List Cell) → more ≡ ns ++ made ∷ [] → all ≡ bs ++ b ∷ [] → Numbered ns bs made → Numbered more all (made + 1)
numbered_pushed ns more bs all made b e f h =
    let P : List ℕ → Type 0 = λ xs. Numbered xs all (made + 1) in
    let Q : List (List Cell) → Type 0 = λ xs. Numbered (ns ++ made ∷ []) xs (made + 1) in
    subst P (sym e) (subst Q (sym f) (numbered_push ns bs made b h))

pub fresh_pushed : (ns more : List ℕ) (bs all : List (List Cell)) (made : ℕ) (b : List Cell) (m : Memory) → more ≡ ns ++ made ∷ [] → all ≡ bs ++ b ∷ [] → Numbered ns bs made → blocks (found ns bs) 0 made ≡ m → blocks (found more all) 0 (made + 1) ≡ m ++ Some b ∷ []
fresh_pushed ns more bs all made b m e f h view =
    ap (λ xs. blocks (found xs all) 0 (made + 1)) e
    ∙ (ap (λ ys. blocks (found (ns ++ made ∷ []) ys) 0 (made + 1)) f
    ∙ (fresh_made (found ns bs) (found (ns ++ made ∷ []) (bs ++ b ∷ [])) made b (pushed_here ns bs made b h.as_many h.below)
    (λ q ne. pushed ns bs made q b h.as_many ne)
    ∙ ap (λ (k : Memory). k ++ Some b ∷ []) view))

pub numbered_less : (shown ns less : List ℕ) (bs rest : List (List Cell)) (made q at : ℕ) → shown ≡ ns → (at < length shown) × (slice_index shown at ≡ q) → less ≡ remove ns at → rest ≡ remove bs at → Numbered ns bs made → Numbered less rest made
numbered_less shown ns less bs rest made q at s place e f h =
    let P : List ℕ → Type 0 = λ xs. Numbered xs rest made in
    let Q : List (List Cell) → Type 0 = λ xs. Numbered (remove ns at) xs made in
    subst P (sym e) (subst Q (sym f) (numbered_remove ns bs made at (at_place shown ns at q s place).0 h))

pub freed : (shown ns less : List ℕ) (bs rest : List (List Cell)) (made q at : ℕ) (m : Memory) → shown ≡ ns → (at < length shown) × (slice_index shown at ≡ q) → less ≡ remove ns at → rest ≡ remove bs at → Numbered ns bs made → blocks (found ns bs) 0 made ≡ m → blocks (found less rest) 0 made ≡ free m q
freed shown ns less bs rest made q at m s place e f h view =
    let there : (at < length ns) × (slice_index ns at ≡ q) = at_place shown ns at q s place in
    let gone : found (remove ns at) (remove bs at) q ≡ None =
    ap (found (remove ns at) (remove bs at)) (sym there.1) ∙ removed_here ns bs at h.rising there.0 in
    ap (λ xs. blocks (found xs rest) 0 made) e
    ∙ (ap (λ ys. blocks (found (remove ns at) ys) 0 made) f
    ∙ (blocks-set (found ns bs) (found (remove ns at) (remove bs at)) made q
    (λ k ne. removed ns bs at k h.as_many there.0 (λ same. ne (same ∙ there.1)))
    ∙ (ap (λ x. slice_set (blocks (found ns bs) 0 made) q x) gone ∙ ap (λ (k : Memory). free k q) view)))

pub dead_already : (m : Memory) (q : ℕ) → block_at m q ≡ None → m ≡ free m q
dead_already [] q h = refl
dead_already (None ∷ m) zero h = refl
dead_already (Some x ∷ m) zero h = cc
dead_already (x ∷ m) (suc q) h = ap (λ xs. x ∷ xs) (dead_already m q h)

-- ---- copies

pub pasted_across : (bs out mid new : List (List Cell)) (s t at from count : ℕ) (source first target after : List Cell) (r : Bool) → s < length bs → t < length bs → s ≢ t → first ≡ get_or bs s first → source ≡ first → out ≡ slice_set bs s [] → target ≡ get_or out t target → mid ≡ slice_set out t after → new ≡ slice_set mid s source → ChangesBlock (cells_put at (span from count source)) target after r → Changes (cells_put at (option_and_then (span from count) (slice_get bs s))) (slice_get bs) (slice_get new) t r
pasted_across bs out mid new s t at from count source first target after r ls lt ne is same eo it em en ch =
    let was : slice_get bs s ≡ Some source = slice_get_read bs (length bs) s first refl ls is ∙ ap (λ x. Some x) (sym same) in
    let long : length out ≡ length bs = ap length eo ∙ length-set bs s [] in
    let there : slice_get out t ≡ Some target = slice_get_read out (length out) t target refl (omega arith) it in
    let P = λ (o : Option (List Cell)). Changes (cells_put at (option_and_then (span from count) o)) (slice_get bs) (slice_get new) t r in
    subst P (sym was) (transferred (cells_put at (span from count source)) bs out mid new s t source target after r ls lt ne was eo there em en ch)

pub same_block : (shown other ns : List ℕ) (i j a b : ℕ) → shown ≡ ns → other ≡ ns → i ≡ j → (i < length shown) × (slice_index shown i ≡ a) → (j < length other) × (slice_index other j ≡ b) → a ≡ b
same_block shown other ns i j a b s t e p q =
    sym p.1 ∙ (ap (λ xs. slice_index xs i) (s ∙ sym t) ∙ (ap (slice_index other) e ∙ q.1))

pub other_block : (shown other ns : List ℕ) (bs : List (List Cell)) (made i j a b : ℕ) → shown ≡ ns → other ≡ ns → Numbered ns bs made → i ≢ j → (i < length shown) × (slice_index shown i ≡ a) → (j < length other) × (slice_index other j ≡ b) → a ≢ b
other_block shown other ns bs made i j a b s t h ne p q same =
    let one : (i < length ns) × (slice_index ns i ≡ a) = at_place shown ns i a s p in
    let two : (j < length ns) × (slice_index ns j ≡ b) = at_place other ns j b t q in
    apart ns i j h.rising one.0 two.0 ne (one.1 ∙ (same ∙ sym two.1))

-- cells of one block, copied to another one
pub gives_across : (shown other ns : List ℕ) (old new : List (List Cell)) (made a o from b q to k : ℕ) (r : Bool) (m : Memory) → shown ≡ ns → other ≡ ns → Numbered ns old made → (from < length shown) × (slice_index shown from ≡ a) → (to < length other) × (slice_index other to ≡ b) → from ≢ to → length new ≡ length old → Changes (cells_put q (option_and_then (span o k) (slice_get old from))) (slice_get old) (slice_get new) to r → blocks (found ns old) 0 made ≡ m → Gives (copied_place m k a o b q) m (blocks (found ns new) 0 made) r
gives_across shown other ns old new made a o from b q to k r m s t h p d ne long ch view =
    let one : (from < length ns) × (slice_index ns from ≡ a) = at_place shown ns from a s p in
    let P = λ (c : Option (List Cell)). Changes (cells_put q (option_and_then (span o k) c)) (slice_get old) (slice_get new) to r in
    let found_there : Changes (cells_put q (option_and_then (span o k) (found ns old a))) (slice_get old) (slice_get new) to r =
    subst P (sym (stands ns old from a h.rising h.as_many one.0 one.1)) ch in
    let Q = λ (x : Memory). Gives (copied_place x k a o b q) x (blocks (found ns new) 0 made) r in
    subst Q view
    (gives_changed (cells_put q (option_and_then (span o k) (found ns old a))) other ns old new made b to r
    (copied_place (blocks (found ns old) 0 made) k a o b q) t h d long found_there
    (copy_across_is (found ns old) made a o b q k (was_made shown ns old made a from s h p) (was_made other ns old made b to t h d)
    (other_block shown other ns old made from to a b s t h ne p d)))
