-- Cells written into a block, and bytes where it stands.
use Rattle.std.proofs.Common.{◌≡◌, ◌≢◌, ℕ, zero, suc, ◌+◌, ◌-◌, ◌^◌, ◌<◌, ◌≤◌, ◌⊎◌, inl, inr, Bool, true, false, ◌&&◌, if◌then◌else◌, List, [], ◌∷◌, ◌++◌, length, take, drop, slice_get, Option, Some, None, refl, sym, ◌∙◌, ap, subst, arith, length-append, nat_eq, nat_le, nat_lt, slice_set, length-drop}
use Rattle.std.specs.Option.{option_map, option_and_then, option_flatten}
use Rattle.std.proofs.lemmas.Bool.Decides.{nat_tests}
use Rattle.std.proofs.lemmas.Option.{slice_get_within, same_Some, none-some}
use Rattle.std.proofs.lemmas.Bool.{eqb-true, eqb-false}
use Rattle.il_ast.specs.declared.value.Cell.{Cell}
use Rattle.il_ast.specs.Prelude.{Memory, block_at, size_at, put, write_at}
use Rattle.flat_code.specs.Flat.{NoAccess, ThisByte, Spots, Bases, Entries, ShowsCell, ShowsMemory, IsPlaced, SameBlocks, SameReach}
use Rattle.flat_code.specs.Step.{is_there, all_there, is_in}
use Rattle.flat_code.proofs.Standing.{two_addresses}
use Rattle.flat_code.proofs.Runs.{cell_there, not_away, taken_get, dropped_get}
use Rattle.il_ast.proofs.Listed.{get_set_same, length_slice_set, get_below, length_take, get_set_apart}

-- memory and bytes after a change: the blocks of before, shown, and no further address
pub record Changed (e : Entries) (p : Bases) (m : Memory) (f : Spots) (n : Memory) (g : Spots) : Type 0 where
  pub memory : ShowsMemory e p n g
  pub sizes : SameBlocks m n
  pub reach : SameReach f g

-- where the code on blocks changes memory, that on bytes does, and shows it
abbrev pub MemoryFollows : Entries → Bases → Memory → Spots → Option Memory → Option Spots → Type 0
MemoryFollows e p m f o n = (now : Memory) → o ≡ Some now → (g : Spots) × (n ≡ Some g) × Changed e p m f now g

-- ---- lists

pub append_get : {A : Type 0} (xs ys : List A) (k : ℕ) (x : A) → slice_get (xs ++ ys) k ≡ Some x → ((k < length xs) × (slice_get xs k ≡ Some x)) ⊎ ((j : ℕ) × (k ≡ length xs + j) × (slice_get ys j ≡ Some x))
append_get [] ys k x h = inr (k, same k, h)
  where
    same : (k : ℕ) → k ≡ 0 + k
    same k = omega arith
append_get (y ∷ xs) ys zero x h = inl (omega arith, h)
append_get {A} (y ∷ xs) ys (suc k) x h = one_more (append_get xs ys k x h)
  where
    one_more : ((k < length xs) × (slice_get xs k ≡ Some x)) ⊎ ((j : ℕ) × (k ≡ length xs + j) × (slice_get ys j ≡ Some x))
        → ((suc k < suc (length xs)) × (slice_get xs k ≡ Some x)) ⊎ ((j : ℕ) × (suc k ≡ suc (length xs) + j) × (slice_get ys j ≡ Some x))
    one_more (inl a) = inl (let lt : k < length xs = a.0 in omega arith, a.1)
    one_more (inr a) = inr (a.0, (let same : k ≡ length xs + a.0 = a.1 in omega arith), a.2)

-- ---- blocks

live_get : (m : Memory) (b : ℕ) (cells : List Cell) → block_at m b ≡ Some cells → slice_get m b ≡ Some (Some cells)
live_get m b cells h = by_item (slice_get m b) h
  where
    by_item : (o : Option (Option (List Cell))) → option_flatten o ≡ Some cells → o ≡ Some (Some cells)
    by_item None h = absurd (none-some cells h)
    by_item (Some x) h = ap Some h

pub live_made : (m : Memory) (b : ℕ) (cells : List Cell) → block_at m b ≡ Some cells → b < length m
live_made m b cells h = slice_get_within m b (Some cells) (live_get m b cells h)

pub block_set : (m : Memory) (b : ℕ) (x : Option (List Cell)) → b < length m → block_at (slice_set m b x) b ≡ x
block_set m b x h = ap option_flatten (get_set_same m b x h)

pub block_other : (m : Memory) (b c : ℕ) (x : Option (List Cell)) → c ≢ b → block_at (slice_set m b x) c ≡ block_at m c
block_other m b c x differ = ap option_flatten (get_set_apart m b c x differ)

pub set_made : (m : Memory) (b : ℕ) (x : Option (List Cell)) → length (slice_set m b x) ≡ length m
set_made m b x = length_slice_set m b x

-- a block of the same size was live before
pub live_before : (m n : Memory) → SameBlocks m n → (b : ℕ) (xs : List Cell) → block_at n b ≡ Some xs → (ys : List Cell) × (block_at m b ≡ Some ys) × (length ys ≡ length xs)
live_before m n same b xs h = by_block (block_at m b) refl (sym (same b) ∙ ap (option_map length) h)
  where
    by_block : (o : Option (List Cell)) → block_at m b ≡ o → option_map length o ≡ Some (length xs) → (ys : List Cell) × (block_at m b ≡ Some ys) × (length ys ≡ length xs)
    by_block None e is = absurd (none-some (length xs) is)
    by_block (Some ys) e is = (ys, e, same_Some (length ys) (length xs) is)

pub placed_alike : (p : Bases) (b : ℕ) (xs ys : List Cell) → length ys ≡ length xs → IsPlaced p b ys → IsPlaced p b xs
placed_alike p b xs ys same h =
    let below : h.base + length ys < 2 ^ 64 = h.below_end in
    record { base = h.base; is = h.is; above_zero = h.above_zero; below_end = (omega arith) }

-- ---- a range of addresses

pub in_range : (at n x : ℕ) → at ≤ x → x < at + n → is_in at n x ≡ true
in_range at n x h k = grind (arith, nat_tests)

pub out_of_range : (at n x : ℕ) → (x < at) ⊎ (at + n ≤ x) → is_in at n x ≡ false
out_of_range at n x (inl h) = grind (arith, nat_tests)
out_of_range at n x (inr h) = grind (arith, nat_tests)

-- an address is outside of a range, or in it at some distance
pub outside_or_in : (at n x : ℕ) → ((x < at) ⊎ (at + n ≤ x)) ⊎ ((k : ℕ) × (k < n) × (x ≡ at + k))
outside_or_in at n x = by_tests (nat_lt x at) (nat_le (at + n) x) refl refl
  where
    by_tests : (s t : Bool) → nat_lt x at ≡ s → nat_le (at + n) x ≡ t → ((x < at) ⊎ (at + n ≤ x)) ⊎ ((k : ℕ) × (k < n) × (x ≡ at + k))
    by_tests true t a b = inl (inl (grind (arith, nat_tests)))
    by_tests false true a b = inl (inr (grind (arith, nat_tests)))
    by_tests false false a b = inr (x - at, grind (arith, nat_tests), grind (arith, nat_tests))

pub there_all : (f : Spots) (at n : ℕ) → ((k : ℕ) → k < n → is_there (f (at + k)) ≡ true) → all_there f at n ≡ true
unfolding all_there
there_all f at zero h = refl
there_all f at (suc n) h =
    let first : is_there (f at) ≡ true = subst (λ a. is_there (f a) ≡ true) (none at) (h 0 (omega arith)) in
    ap (λ (b : Bool). b && all_there f (at + 1) n) first
    ∙ there_all f (at + 1) n (λ k lt. subst (λ a. is_there (f a) ≡ true) (later at k) (h (suc k) (omega arith)))
  where
    none : (a : ℕ) → a + 0 ≡ a
    none a = omega arith

    later : (a k : ℕ) → a + suc k ≡ a + 1 + k
    later a k = omega arith

-- ---- what was written

pub record IsWritten (m : Memory) (b o : ℕ) (new : List Cell) (now : Memory) : Type 0 where
  pub old : List Cell
  pub live : block_at m b ≡ Some old
  pub within : o + length new ≤ length old
  pub is : now ≡ slice_set m b (Some (take o old ++ (new ++ drop (o + length new) old)))

pub is_written : (m : Memory) (b o : ℕ) (new : List Cell) (now : Memory) → write_at m b o new ≡ Some now → IsWritten m b o new now
is_written m b o new now h = by_block (block_at m b) refl h
  where
    mid : List Cell → List Cell
    mid old = take o old ++ (new ++ drop (o + length new) old)

    tested : (old : List Cell) → block_at m b ≡ Some old → (t : Bool) → nat_le (o + length new) (length old) ≡ t
        → option_map (λ cells. slice_set m b (Some cells)) (if t then Some (take o old ++ (new ++ drop (o + length new) old)) else None) ≡ Some now → IsWritten m b o new now
    tested old live false e is = absurd (none-some now is)
    tested old live true e is =
        record {
          old = old;
          live = live;
          within = grind (arith, nat_tests);
          is = sym (same_Some (slice_set m b (Some (take o old ++ (new ++ drop (o + length new) old)))) now is);
        }

    by_block : (x : Option (List Cell)) → block_at m b ≡ x → option_map (λ cells. slice_set m b (Some cells)) (option_and_then (put o new) x) ≡ Some now → IsWritten m b o new now
    by_block None e is = absurd (none-some now is)
    by_block (Some old) e is = tested old e (nat_le (o + length new) (length old)) refl is

-- a cell of the block after it: one of before, outside of what was written, or a new one
spliced_get : (o : ℕ) (new old : List Cell) (k : ℕ) (c : Cell) → o + length new ≤ length old → slice_get (take o old ++ (new ++ drop (o + length new) old)) k ≡ Some c
    → (((k < o) ⊎ (o + length new ≤ k)) × (slice_get old k ≡ Some c)) ⊎ ((j : ℕ) × (k ≡ o + j) × (slice_get new j ≡ Some c))
spliced_get o new old k c within h =
    elim (append_get (take o old) (new ++ drop (o + length new) old) k c h) [
      | inl a ↦ inl (inl (let lt : k < length (take o old) = a.0 in let e : length (take o old) ≡ o = long in omega arith), taken_get o old k c a.1)
      | inr a ↦ right a.0 (let e : k ≡ length (take o old) + a.0 = a.1 in let l : length (take o old) ≡ o = long in omega arith) (append_get new (drop (o + length new) old) a.0 c a.2)
    ]
  where
    long : length (take o old) ≡ o
    long = length_take o old (omega arith)

    right : (j : ℕ) → k ≡ o + j → ((j < length new) × (slice_get new j ≡ Some c)) ⊎ ((i : ℕ) × (j ≡ length new + i) × (slice_get (drop (o + length new) old) i ≡ Some c))
        → (((k < o) ⊎ (o + length new ≤ k)) × (slice_get old k ≡ Some c)) ⊎ ((i : ℕ) × (k ≡ o + i) × (slice_get new i ≡ Some c))
    right j e (inl b) = inr (j, e, b.1)
    right j e (inr b) =
        let same : j ≡ length new + b.0 = b.1 in
        let place : o + length new + b.0 ≡ k = omega arith in
        inl (inr (omega arith), subst (λ n. slice_get old n ≡ Some c) place (sym (dropped_get (o + length new) old b.0) ∙ b.2))

spliced_length : (o : ℕ) (new old : List Cell) → o + length new ≤ length old → length (take o old ++ (new ++ drop (o + length new) old)) ≡ length old
spliced_length o new old within =
    let a : length (take o old ++ (new ++ drop (o + length new) old)) ≡ length (take o old) + length (new ++ drop (o + length new) old) = length-append (take o old) (new ++ drop (o + length new) old) in
    let b : length (new ++ drop (o + length new) old) ≡ length new + length (drop (o + length new) old) = length-append new (drop (o + length new) old) in
    let c : length (take o old) ≡ o = length_take o old (omega arith) in
    let d : length (drop (o + length new) old) ≡ length old - (o + length new) = length-drop (o + length new) old in
    omega arith

-- ---- bytes over it

-- the new cells are shown from an address upward, and all else is as it was
pub record IsCovered (e : Entries) (p : Bases) (f g : Spots) (at : ℕ) (new : List Cell) : Type 0 where
  pub inside : (k : ℕ) (c : Cell) → slice_get new k ≡ Some c → ShowsCell e p c (g (at + k))
  pub outside : (x : ℕ) → (x < at) ⊎ (at + length new ≤ x) → g x ≡ f x
  pub bytes : (x n : ℕ) → g x ≡ ThisByte n → n < 256

-- the block after it, and each other block
written_block : (m : Memory) (b : ℕ) (mid old : List Cell) → block_at m b ≡ Some old → (c : ℕ) (cells : List Cell) → block_at (slice_set m b (Some mid)) c ≡ Some cells
    → ((c ≡ b) × (cells ≡ mid)) ⊎ ((c ≢ b) × (block_at m c ≡ Some cells))
written_block m b mid old live c cells h = by_test (nat_eq c b) refl
  where
    by_test : (t : Bool) → nat_eq c b ≡ t → ((c ≡ b) × (cells ≡ mid)) ⊎ ((c ≢ b) × (block_at m c ≡ Some cells))
    by_test true e =
        let same : c ≡ b = eqb-true c b e in
        inl (same, same_Some cells mid (sym h ∙ (ap (block_at (slice_set m b (Some mid))) same ∙ block_set m b (Some mid) (live_made m b old live))))
    by_test false e = inr (eqb-false c b e, sym (block_other m b c (Some mid) (eqb-false c b e)) ∙ h)

written_sizes : (m : Memory) (b : ℕ) (mid old : List Cell) → block_at m b ≡ Some old → length mid ≡ length old → SameBlocks m (slice_set m b (Some mid))
written_sizes m b mid old live long c = by_test (nat_eq c b) refl
  where
    by_test : (t : Bool) → nat_eq c b ≡ t → size_at (slice_set m b (Some mid)) c ≡ size_at m c
    by_test true e =
        let same : c ≡ b = eqb-true c b e in
        ap (λ i. size_at (slice_set m b (Some mid)) i) same
        ∙ (ap (option_map length) (block_set m b (Some mid) (live_made m b old live))
        ∙ (ap Some long ∙ (sym (ap (option_map length) live) ∙ ap (λ i. size_at m i) (sym same))))
    by_test false e = ap (option_map length) (block_other m b c (Some mid) (eqb-false c b e))

-- the cells of the memory after it are shown
written_cells : (e : Entries) (p : Bases) (m : Memory) (f g : Spots) (b o a : ℕ) (new old : List Cell) → ShowsMemory e p m f → block_at m b ≡ Some old → o + length new ≤ length old → p b ≡ Some a → IsCovered e p f g (a + o) new
    → (c d k : ℕ) (cells : List Cell) (x : Cell) → block_at (slice_set m b (Some (take o old ++ (new ++ drop (o + length new) old)))) c ≡ Some cells → p c ≡ Some d → slice_get cells k ≡ Some x → ShowsCell e p x (g (d + k))
written_cells e p m f g b o a new old memory live within at covered c d k cells x h is got =
    elim (written_block m b (take o old ++ (new ++ drop (o + length new) old)) old live c cells h) [
      | inl one ↦ in_it (same_Some d a (sym is ∙ (ap p one.0 ∙ at))) (spliced_get o new old k x within (ap (λ (s : List Cell). slice_get s k) (sym one.1) ∙ got))
      | inr one ↦ elsewhere one.0 one.1 (outside_or_in (a + o) (length new) (d + k))
    ]
  where
    in_it : d ≡ a → (((k < o) ⊎ (o + length new ≤ k)) × (slice_get old k ≡ Some x)) ⊎ ((j : ℕ) × (k ≡ o + j) × (slice_get new j ≡ Some x)) → ShowsCell e p x (g (d + k))
    in_it same (inl z) =
        let away : (d + k < a + o) ⊎ (a + o + length new ≤ d + k) = elim z.0 [ inl lt ↦ inl (omega arith) | inr le ↦ inr (omega arith) ] in
        subst (λ s. ShowsCell e p x s) (sym (covered.outside (d + k) away)) (subst (λ i. ShowsCell e p x (f (i + k))) (sym same) (memory.cells b a k old x live at z.1))
    in_it same (inr z) =
        let k_is : k ≡ o + z.0 = z.1 in
        let place : a + o + z.0 ≡ d + k = omega arith in
        subst (λ i. ShowsCell e p x (g i)) place (covered.inside z.0 x z.2)

    elsewhere : c ≢ b → block_at m c ≡ Some cells → ((d + k < a + o) ⊎ (a + o + length new ≤ d + k)) ⊎ ((i : ℕ) × (i < length new) × (d + k ≡ a + o + i)) → ShowsCell e p x (g (d + k))
    elsewhere differ there (inl away) =
        subst (λ s. ShowsCell e p x s) (sym (covered.outside (d + k) away)) (memory.cells c d k cells x there is got)
    elsewhere differ there (inr z) =
        let small : z.0 < length new = z.1 in
        let same : d + k ≡ a + (o + z.0) = (let e : d + k ≡ a + o + z.0 = z.2 in omega arith) in
        absurd (two_addresses e p m f c b d a k (o + z.0) cells old memory differ there live is at (slice_get_within cells k x got) (omega arith) same)

pub written_shown : (e : Entries) (p : Bases) (m : Memory) (f g : Spots) (b o a : ℕ) (new : List Cell) (now : Memory) → ShowsMemory e p m f → IsWritten m b o new now → p b ≡ Some a → IsCovered e p f g (a + o) new
    → Changed e p m f now g
written_shown e p m f g b o a new now memory w at covered =
    subst (λ (n : Memory). Changed e p m f n g) (sym w.is)
    (record {
      memory = record {
        placed = λ c cells h. let l = before c cells h in placed_alike p c cells l.0 l.2 (memory.placed c l.0 l.1);
        unmade = λ c le. memory.unmade c (let same : length (slice_set m b (Some mid)) ≡ length m = set_made m b (Some mid) in omega arith);
        cells = written_cells e p m f g b o a new w.old memory w.live w.within at covered;
        apart = λ c d x y xs ys differ h k is also some some2.
            let l = before c xs h in
            let r = before d ys k in
            apart_alike x y (length l.0) (length r.0) (length xs) (length ys) l.2 r.2
            (memory.apart c d x y l.0 r.0 differ l.1 r.1 is also (subst (λ n. 0 < n) (sym l.2) some) (subst (λ n. 0 < n) (sym r.2) some2));
        bytes = covered.bytes;
      };
      sizes = sizes;
      reach = λ x away. reached x away (outside_or_in (a + o) (length new) x);
    })
  where
    mid : List Cell
    mid = take o w.old ++ (new ++ drop (o + length new) w.old)

    sizes : SameBlocks m (slice_set m b (Some mid))
    sizes = written_sizes m b mid w.old w.live (spliced_length o new w.old w.within)

    before : (c : ℕ) (cells : List Cell) → block_at (slice_set m b (Some mid)) c ≡ Some cells → (ys : List Cell) × (block_at m c ≡ Some ys) × (length ys ≡ length cells)
    before = live_before m (slice_set m b (Some mid)) sizes

    apart_alike : (x y i j k l : ℕ) → i ≡ k → j ≡ l → (x + i ≤ y) ⊎ (y + j ≤ x) → (x + k ≤ y) ⊎ (y + l ≤ x)
    apart_alike x y i j k l s t (inl h) = inl (omega arith)
    apart_alike x y i j k l s t (inr h) = inr (omega arith)

    reached : (x : ℕ) → f x ≡ NoAccess → ((x < a + o) ⊎ (a + o + length new ≤ x)) ⊎ ((k : ℕ) × (k < length new) × (x ≡ a + o + k)) → g x ≡ NoAccess
    reached x away (inl out) = covered.outside x out ∙ away
    reached x away (inr z) =
        let small : z.0 < length new = z.1 in
        let le : o + length new ≤ length w.old = w.within in
        let cell = get_below w.old (o + z.0) (omega arith) in
        let same : x ≡ a + (o + z.0) = (let e : x ≡ a + o + z.0 = z.2 in omega arith) in
        absurd (not_away e p cell.0 (f (a + (o + z.0))) (memory.cells b a (o + z.0) w.old cell.0 w.live at cell.1) (ap f (sym same) ∙ away))

-- bytes of the old cells are there
pub written_there : (e : Entries) (p : Bases) (m : Memory) (f : Spots) (b o a n : ℕ) (old : List Cell) → ShowsMemory e p m f → block_at m b ≡ Some old → o + n ≤ length old → p b ≡ Some a → all_there f (a + o) n ≡ true
written_there e p m f b o a n old memory live within at =
    there_all f (a + o) n (λ k lt.
    let cell = get_below old (o + k) (omega arith) in
    let same : a + (o + k) ≡ a + o + k = omega arith in
    cell_there e p cell.0 (f (a + o + k)) (subst (λ i. ShowsCell e p cell.0 (f i)) same (memory.cells b a (o + k) old cell.0 live at cell.1)))
