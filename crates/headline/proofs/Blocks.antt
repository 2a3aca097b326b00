-- Blocks at addresses, one list beside the other: from them the memory that they show.
use Rattle.std.proofs.Common.{◌≡◌, ◌≢◌, ◌⊎◌, inl, inr, ℕ, zero, suc, ◌+◌, ◌^◌, ◌<◌, ◌≤◌, List, [], ◌∷◌, ◌++◌, length, refl, sym, ◌∙◌, subst, ap, arith, slice_get, Some, None}
use Rattle.il_ast.specs.declared.value.Cell.{Cell}
use Rattle.il_ast.specs.Prelude.{Memory, block_at}
use Rattle.flat_code.specs.Flat.{ThisByte, Spots, Bases, Entries, ShowsCell, ShowsMemory}

-- ---- one block

abbrev pub SpotsShow : Entries → Bases → Spots → List Cell → ℕ → Type 0
SpotsShow e p f [] at = Unit {0}
SpotsShow e p f (c ∷ cells) at = ShowsCell e p c (f at) × SpotsShow e p f cells (at + 1)

pub spots_append : (e : Entries) (p : Bases) (f : Spots) (xs ys : List Cell) (at : ℕ) → SpotsShow e p f xs at → SpotsShow e p f ys (at + length xs) → SpotsShow e p f (xs ++ ys) at
spots_append e p f [] ys at h k = let same : at + 0 ≡ at = omega arith in subst (λ a. SpotsShow e p f ys a) same k
spots_append e p f (x ∷ xs) ys at h k =
    let same : at + suc (length xs) ≡ at + 1 + length xs = omega arith in
    (h.0, spots_append e p f xs ys (at + 1) h.1 (subst (λ a. SpotsShow e p f ys a) same k))

shown_at : (e : Entries) (p : Bases) (f : Spots) (cells : List Cell) (at : ℕ) → SpotsShow e p f cells at → (k : ℕ) (c : Cell) → slice_get cells k ≡ Some c → ShowsCell e p c (f (at + k))
shown_at e p f [] at h k c found = absurd (nothing found)
  where
    nothing : None ≡ Some c → ⊥
    nothing g = cc
shown_at e p f (x ∷ cells) at h zero c found =
    let same : at ≡ at + 0 = omega arith in
    let is : x ≡ c = cc in
    subst (λ a. ShowsCell e p c (f a)) same (subst (λ d. ShowsCell e p d (f at)) is h.0)
shown_at e p f (x ∷ cells) at h (suc k) c found =
    let same : at + 1 + k ≡ at + suc k = omega arith in
    subst (λ a. ShowsCell e p c (f a)) same (shown_at e p f cells (at + 1) h.1 k c found)

pub record BlockShows (e : Entries) (p : Bases) (f : Spots) (cells : List Cell) (at : ℕ) : Type 0 where
  pub above_zero : 0 < at
  pub below_end : at + length cells < 2 ^ 64
  pub cells_show : SpotsShow e p f cells at

-- ---- blocks by number

abbrev pub AllShow : Entries → Bases → Spots → Memory → List ℕ → Type 0
AllShow e p f [] [] = Unit {0}
AllShow e p f [] (at ∷ places) = ⊥
AllShow e p f (b ∷ m) [] = ⊥
AllShow e p f (None ∷ m) (at ∷ places) = ⊥
AllShow e p f (Some cells ∷ m) (at ∷ places) = BlockShows e p f cells at × AllShow e p f m places

pub all_append : (e : Entries) (p : Bases) (f : Spots) (m n : Memory) (ps qs : List ℕ) → AllShow e p f m ps → AllShow e p f n qs → AllShow e p f (m ++ n) (ps ++ qs)
all_append e p f [] n [] qs h k = k
all_append e p f [] n (at ∷ ps) qs h k = absurd h
all_append e p f (b ∷ m) n [] qs h k = absurd h
all_append e p f (None ∷ m) n (at ∷ ps) qs h k = absurd h
all_append e p f (Some cells ∷ m) n (at ∷ ps) qs h k = (h.0, all_append e p f m n ps qs h.1 k)

record Found (e : Entries) (p : Bases) (f : Spots) (cells : List Cell) (places : List ℕ) (b : ℕ) : Type 0 where
  at : ℕ
  here : slice_get places b ≡ Some at
  shows : BlockShows e p f cells at

found_at : (e : Entries) (p : Bases) (f : Spots) (m : Memory) (places : List ℕ) → AllShow e p f m places → (b : ℕ) (cells : List Cell) → block_at m b ≡ Some cells → Found e p f cells places b
found_at e p f [] [] h b cells is = absurd (nothing is)
  where
    nothing : None ≡ Some cells → ⊥
    nothing g = cc
found_at e p f [] (at ∷ places) h b cells is = absurd h
found_at e p f (b ∷ m) [] h k cells is = absurd h
found_at e p f (None ∷ m) (at ∷ places) h k cells is = absurd h
found_at e p f (Some xs ∷ m) (at ∷ places) h zero cells is =
    let same : xs ≡ cells = cc in
    record { at = at; here = refl; shows = subst (λ ys. BlockShows e p f ys at) same h.0 }
found_at e p f (Some xs ∷ m) (at ∷ places) h (suc k) cells is =
    let r = found_at e p f m places h.1 k cells is in record { at = r.at; here = r.here; shows = r.shows }

-- ---- apart

abbrev Disjoint : (a m d n : ℕ) → Type 0
Disjoint a m d n = (a + m ≤ d) ⊎ (d + n ≤ a)

-- the block at `at` has no address in common with these
abbrev pub EachApart : (at size : ℕ) → Memory → List ℕ → Type 0
EachApart at size [] ps = Unit {0}
EachApart at size (b ∷ m) [] = Unit {0}
EachApart at size (None ∷ m) (q ∷ ps) = EachApart at size m ps
EachApart at size (Some cells ∷ m) (q ∷ ps) = ((at + size ≤ q) ⊎ (q + length cells ≤ at)) × EachApart at size m ps

abbrev pub AllApart : Memory → List ℕ → Type 0
AllApart [] ps = Unit {0}
AllApart (b ∷ m) [] = Unit {0}
AllApart (None ∷ m) (q ∷ ps) = AllApart m ps
AllApart (Some cells ∷ m) (q ∷ ps) = EachApart q (length cells) m ps × AllApart m ps

-- all of them lie between low and high
abbrev pub Between : (low high : ℕ) → Memory → List ℕ → Type 0
Between low high [] [] = Unit {0}
Between low high [] (q ∷ ps) = ⊥
Between low high (b ∷ m) [] = ⊥
Between low high (None ∷ m) (q ∷ ps) = ⊥
Between low high (Some cells ∷ m) (q ∷ ps) = (low ≤ q) × (q + length cells ≤ high) × Between low high m ps

pub apart_from : (low high at size : ℕ) → (at + size ≤ low) ⊎ (high ≤ at) → (m : Memory) (ps : List ℕ) → Between low high m ps → EachApart at size m ps
apart_from low high at size side [] [] h = tt
apart_from low high at size side [] (q ∷ ps) h = tt
apart_from low high at size side (b ∷ m) [] h = tt
apart_from low high at size side (None ∷ m) (q ∷ ps) h = absurd h
apart_from low high at size side (Some cells ∷ m) (q ∷ ps) h = (by_side side, apart_from low high at size side m ps h.2)
  where
    by_side : (at + size ≤ low) ⊎ (high ≤ at) → (at + size ≤ q) ⊎ (q + length cells ≤ at)
    by_side (inl s) = let l = h.0 in inl (omega arith)
    by_side (inr s) = let l = h.1 in inr (omega arith)

pub each_append : (at size : ℕ) (m n : Memory) (ps qs : List ℕ) (low high : ℕ) → Between low high m ps → EachApart at size m ps → EachApart at size n qs → EachApart at size (m ++ n) (ps ++ qs)
each_append at size [] n [] qs low high b h k = k
each_append at size [] n (q ∷ ps) qs low high b h k = absurd b
each_append at size (x ∷ m) n [] qs low high b h k = absurd b
each_append at size (None ∷ m) n (q ∷ ps) qs low high b h k = absurd b
each_append at size (Some cells ∷ m) n (q ∷ ps) qs low high b h k = (h.0, each_append at size m n ps qs low high b.2 h.1 k)

-- two ranges that don't overlap
pub apart_append : (m n : Memory) (ps qs : List ℕ) (low high below above : ℕ) → Between low high m ps → Between below above n qs → (high ≤ below) ⊎ (above ≤ low) → AllApart m ps → AllApart n qs → AllApart (m ++ n) (ps ++ qs)
apart_append [] n [] qs low high below above b c side h k = k
apart_append [] n (q ∷ ps) qs low high below above b c side h k = absurd b
apart_append (x ∷ m) n [] qs low high below above b c side h k = absurd b
apart_append (None ∷ m) n (q ∷ ps) qs low high below above b c side h k = absurd b
apart_append (Some cells ∷ m) n (q ∷ ps) qs low high below above b c side h k = (
  each_append q (length cells) m n ps qs low high b.2 h.0 (apart_from below above q (length cells) (by_side side) n qs c),
  apart_append m n ps qs low high below above b.2 c side h.1 k,
)
  where
    by_side : (high ≤ below) ⊎ (above ≤ low) → (q + length cells ≤ below) ⊎ (above ≤ q)
    by_side (inl s) = let l = b.1 in inl (omega arith)
    by_side (inr s) = let l = b.0 in inr (omega arith)

each_at : (at size : ℕ) (m : Memory) (ps : List ℕ) → EachApart at size m ps → (b d : ℕ) (cells : List Cell) → block_at m b ≡ Some cells → slice_get ps b ≡ Some d → Disjoint at size d (length cells)
each_at at size [] ps h b d cells is here = absurd (nothing is)
  where
    nothing : None ≡ Some cells → ⊥
    nothing g = cc
each_at at size (x ∷ m) [] h b d cells is here = absurd (nothing here)
  where
    nothing : None ≡ Some d → ⊥
    nothing g = cc
each_at at size (None ∷ m) (q ∷ ps) h zero d cells is here = absurd (nothing is)
  where
    nothing : None ≡ Some cells → ⊥
    nothing g = cc
each_at at size (None ∷ m) (q ∷ ps) h (suc b) d cells is here = each_at at size m ps h b d cells is here
each_at at size (Some xs ∷ m) (q ∷ ps) h zero d cells is here =
    let same : xs ≡ cells = cc in
    let place : q ≡ d = cc in
    subst (λ ys. Disjoint at size d (length ys)) same (subst (λ e. Disjoint at size e (length xs)) place h.0)
each_at at size (Some xs ∷ m) (q ∷ ps) h (suc b) d cells is here = each_at at size m ps h.1 b d cells is here

other_way : (a m d n : ℕ) → Disjoint a m d n → Disjoint d n a m
other_way a m d n (inl h) = inr h
other_way a m d n (inr h) = inl h

apart_at : (m : Memory) (ps : List ℕ) → AllApart m ps → (b c a d : ℕ) (xs ys : List Cell) → b ≢ c → block_at m b ≡ Some xs → block_at m c ≡ Some ys → slice_get ps b ≡ Some a → slice_get ps c ≡ Some d → Disjoint a (length xs) d (length ys)
apart_at [] ps h b c a d xs ys differ is also at dt = absurd (nothing is)
  where
    nothing : None ≡ Some xs → ⊥
    nothing g = cc
apart_at (z ∷ m) [] h b c a d xs ys differ is also at dt = absurd (nothing at)
  where
    nothing : None ≡ Some a → ⊥
    nothing g = cc
apart_at (z ∷ m) (q ∷ ps) h zero zero a d xs ys differ is also at dt = absurd (differ refl)
apart_at (None ∷ m) (q ∷ ps) h zero (suc c) a d xs ys differ is also at dt = absurd (nothing is)
  where
    nothing : None ≡ Some xs → ⊥
    nothing g = cc
apart_at (Some zs ∷ m) (q ∷ ps) h zero (suc c) a d xs ys differ is also at dt =
    let same : zs ≡ xs = cc in
    let place : q ≡ a = cc in
    subst (λ ws. Disjoint a (length ws) d (length ys)) same
    (subst (λ e. Disjoint e (length zs) d (length ys)) place (each_at q (length zs) m ps h.0 c d ys also dt))
apart_at (None ∷ m) (q ∷ ps) h (suc b) zero a d xs ys differ is also at dt = absurd (nothing also)
  where
    nothing : None ≡ Some ys → ⊥
    nothing g = cc
apart_at (Some zs ∷ m) (q ∷ ps) h (suc b) zero a d xs ys differ is also at dt =
    let same : zs ≡ ys = cc in
    let place : q ≡ d = cc in
    subst (λ ws. Disjoint a (length xs) d (length ws)) same
    (subst (λ e. Disjoint a (length xs) e (length zs)) place
    (other_way q (length zs) a (length xs) (each_at q (length zs) m ps h.0 b a xs is at)))
apart_at (None ∷ m) (q ∷ ps) h (suc b) (suc c) a d xs ys differ is also at dt =
    apart_at m ps h b c a d xs ys (λ e. differ (ap suc e)) is also at dt
apart_at (Some zs ∷ m) (q ∷ ps) h (suc b) (suc c) a d xs ys differ is also at dt =
    apart_at m ps h.1 b c a d xs ys (λ e. differ (ap suc e)) is also at dt

-- ---- blocks not yet made

as_many : (e : Entries) (p : Bases) (f : Spots) (m : Memory) (places : List ℕ) → AllShow e p f m places → length places ≡ length m
as_many e p f [] [] h = refl
as_many e p f [] (at ∷ places) h = absurd h
as_many e p f (b ∷ m) [] h = absurd h
as_many e p f (None ∷ m) (at ∷ places) h = absurd h
as_many e p f (Some cells ∷ m) (at ∷ places) h = ap suc (as_many e p f m places h.1)

none_beyond : (places : List ℕ) (b : ℕ) → length places ≤ b → slice_get places b ≡ None
none_beyond [] b h = refl
none_beyond (at ∷ places) zero h = absurd (omega (arith, h))
none_beyond (at ∷ places) (suc b) h = none_beyond places b (omega (arith, h))

-- ---- the memory

pub shows_all : (e : Entries) (places : List ℕ) (f : Spots) (m : Memory) → AllShow e (λ b. slice_get places b) f m places → AllApart m places → ((x n : ℕ) → f x ≡ ThisByte n → n < 256) → ShowsMemory e (λ b. slice_get places b) m f
shows_all e places f m all apart bytes =
    record {
      placed =
          λ b cells is.
          let r = found_at e (λ k. slice_get places k) f m places all b cells is in
          record { base = r.at; is = r.here; above_zero = r.shows.above_zero; below_end = r.shows.below_end };
      unmade = λ b h. none_beyond places b (subst (λ n. n ≤ b) (sym (as_many e (λ k. slice_get places k) f m places all)) h);
      cells =
          λ b a k cells c is at found.
          let r = found_at e (λ j. slice_get places j) f m places all b cells is in
          let same : Some r.at ≡ Some a = sym r.here ∙ at in
          let here : r.at ≡ a = cc in
          subst (λ x. ShowsCell e (λ j. slice_get places j) c (f (x + k))) here
          (shown_at e (λ j. slice_get places j) f cells r.at r.shows.cells_show k c found);
      apart = λ b c a d xs ys differ is also at dt some other. apart_at m places apart b c a d xs ys differ is also at dt;
      bytes = bytes;
    }
