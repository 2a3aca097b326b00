-- The bytes of the argument range, one after another, and the blocks of the start that they show.
use Rattle.std.proofs.Common.{◌≡◌, inl, ℕ, suc, ◌+◌, ◌%◌, ◌^◌, ◌<◌, ◌≤◌, List, [], ◌∷◌, ◌++◌, length, map, refl, ◌∙◌, subst, ap, arith, length-append, Some}
use Rattle.std.specs.Int.{w64, to_le_bytes}
use Rattle.il_ast.specs.declared.value.Cell.TheVariants.{Plain}
use Rattle.il_ast.specs.declared.value.Value.TheVariants.{Pointer}
use Rattle.il_ast.specs.Prelude.{parts, word_cells, pointers_from}
use Rattle.rv_isa.specs.Prelude.{pointer_bytes, word_bytes}
use Rattle.flat_code.specs.Flat.{ThisByte, Spots, Bases, Entries}
use Rattle.headline.specs.Executables.{word_places}
use Rattle.headline.proofs.Blocks.{SpotsShow, spots_append, AllShow, AllApart, Between, apart_from}

-- these bytes are known from an address upward
abbrev pub BytesKnown : Spots → List ℕ → ℕ → Type 0
BytesKnown f [] at = Unit {0}
BytesKnown f (b ∷ bs) at = (f at ≡ ThisByte b) × BytesKnown f bs (at + 1)

pub known_split : (f : Spots) (xs ys : List ℕ) (at : ℕ) → BytesKnown f (xs ++ ys) at → BytesKnown f xs at × BytesKnown f ys (at + length xs)
known_split f [] ys at h = let same : at ≡ at + 0 = omega arith in (tt, subst (λ a. BytesKnown f ys a) same h)
known_split f (x ∷ xs) ys at h =
    let r = known_split f xs ys (at + 1) h.1 in
    let same : at + 1 + length xs ≡ at + suc (length xs) = omega arith in
    ((h.0, r.0), subst (λ a. BytesKnown f ys a) same r.1)

pub plain_shown : (e : Entries) (p : Bases) (f : Spots) (bs : List ℕ) (at : ℕ) → BytesKnown f bs at → SpotsShow e p f (map Plain bs) at
plain_shown e p f [] at h = tt
plain_shown e p f (b ∷ bs) at h = (h.0, plain_shown e p f bs (at + 1) h.1)

length_plain : (bs : List ℕ) → length (map Plain bs) ≡ length bs
length_plain [] = refl
length_plain (b ∷ bs) = ap suc (length_plain bs)

length_word : (w : List ℕ) → length (word_cells w) ≡ length w + 1
length_word w = length_plain (w ++ 0 ∷ []) ∙ length-append w (0 ∷ [])

-- ---- the words

pub words_shown : (e : Entries) (p : Bases) (f : Spots) (ws : List (List ℕ)) (at : ℕ) → 0 < at → at + length (word_bytes ws) < 2 ^ 64 → BytesKnown f (word_bytes ws) at → AllShow e p f (map (λ (w : List ℕ). Some (word_cells w)) ws) (word_places at ws)
words_shown e p f [] at positive small h = tt
words_shown e p f (w ∷ ws) at positive small h =
    let parts = known_split f (w ++ 0 ∷ []) (word_bytes ws) at h in
    let size : length (w ++ 0 ∷ []) ≡ length w + 1 = length-append w (0 ∷ []) in
    let whole : length ((w ++ 0 ∷ []) ++ word_bytes ws) ≡ length (w ++ 0 ∷ []) + length (word_bytes ws) = length-append (w ++ 0 ∷ []) (word_bytes ws) in
    let cells : length (word_cells w) ≡ length w + 1 = length_word w in (
      record {
        above_zero = positive;
        below_end = omega arith;
        cells_show = plain_shown e p f (w ++ 0 ∷ []) at parts.0;
      },
      words_shown e p f ws (at + (length w + 1)) (omega arith) (omega arith)
          (subst (λ n. BytesKnown f (word_bytes ws) (at + n)) size parts.1),
    )

pub words_between : (ws : List (List ℕ)) (at low high : ℕ) → low ≤ at → at + length (word_bytes ws) ≤ high → Between low high (map (λ (w : List ℕ). Some (word_cells w)) ws) (word_places at ws)
words_between [] at low high le up = tt
words_between (w ∷ ws) at low high le up =
    let size : length (w ++ 0 ∷ []) ≡ length w + 1 = length-append w (0 ∷ []) in
    let whole : length ((w ++ 0 ∷ []) ++ word_bytes ws) ≡ length (w ++ 0 ∷ []) + length (word_bytes ws) = length-append (w ++ 0 ∷ []) (word_bytes ws) in
    let cells : length (word_cells w) ≡ length w + 1 = length_word w in
    (le, omega arith, words_between ws (at + (length w + 1)) low high (omega arith) (omega arith))

pub words_apart : (ws : List (List ℕ)) (at : ℕ) → AllApart (map (λ (w : List ℕ). Some (word_cells w)) ws) (word_places at ws)
words_apart [] at = tt
words_apart (w ∷ ws) at =
    let cells : length (word_cells w) ≡ length w + 1 = length_word w in
    let next = at + (length w + 1) in (
      apart_from next (next + length (word_bytes ws)) at (length (word_cells w)) (inl (omega arith)) (map (λ (v : List ℕ). Some (word_cells v)) ws) (word_places next ws)
          (words_between ws next next (next + length (word_bytes ws)) (omega arith) (omega arith)),
      words_apart ws next,
    )

-- ---- the argument list

-- the blocks from number b on stand at these addresses
abbrev pub StandFrom : Bases → ℕ → List ℕ → Type 0
StandFrom p b [] = Unit {0}
StandFrom p b (at ∷ places) = (p b ≡ Some at) × StandFrom p (b + 1) places

pointer_shown : (e : Entries) (p : Bases) (f : Spots) (b target at : ℕ) → target < 2 ^ 64 → p b ≡ Some target → BytesKnown f (to_le_bytes w64 target) at → SpotsShow e p f (parts (Pointer b 0)) at
pointer_shown e p f b target at small here h =
    let whole : target ≡ (target + 0) % 2 ^ 64 = omega arith in
    let v : (x : ℕ) × (p b ≡ Some x) × (target ≡ (x + 0) % 2 ^ 64) = (target, here, whole) in (
      (target, v, small, h.0),
      (
        (target, v, small, h.1.0),
        (
          (target, v, small, h.1.1.0),
          (
            (target, v, small, h.1.1.1.0),
            ((target, v, small, h.1.1.1.1.0), ((target, v, small, h.1.1.1.1.1.0), ((target, v, small, h.1.1.1.1.1.1.0), ((target, v, small, h.1.1.1.1.1.1.1.0), tt)))),
          ),
        ),
      ),
    )

pub pointers_shown : (e : Entries) (p : Bases) (f : Spots) (ws : List (List ℕ)) (b first at : ℕ) → first + length (word_bytes ws) < 2 ^ 64 → StandFrom p b (word_places first ws) → BytesKnown f (pointer_bytes first ws) at → SpotsShow e p f (pointers_from b (length ws)) at
pointers_shown e p f [] b first at small places h = tt
pointers_shown e p f (w ∷ ws) b first at small places h =
    let split = known_split f (to_le_bytes w64 first) (pointer_bytes (first + length w + 1) ws) at h in
    let size : length (w ++ 0 ∷ []) ≡ length w + 1 = length-append w (0 ∷ []) in
    let whole : length ((w ++ 0 ∷ []) ++ word_bytes ws) ≡ length (w ++ 0 ∷ []) + length (word_bytes ws) = length-append (w ++ 0 ∷ []) (word_bytes ws) in
    let next : first + length w + 1 ≡ first + (length w + 1) = omega arith in
    spots_append e p f (parts (Pointer b 0)) (pointers_from (b + 1) (length ws)) at
    (pointer_shown e p f b first at (omega arith) places.0 split.0)
    (pointers_shown e p f ws (b + 1) (first + (length w + 1)) (at + 8) (omega arith) places.1
    (subst (λ a. BytesKnown f (pointer_bytes a ws) (at + 8)) next split.1))
