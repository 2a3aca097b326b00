-- A fresh block stands in the next bytes of the area.
use Rattle.std.proofs.Common.{◌≡◌, ◌≢◌, ℕ, zero, suc, ◌+◌, ◌^◌, ◌<◌, ◌≤◌, ◌⊎◌, inl, inr, Bool, true, false, ◌||◌, if◌then◌else◌, List, [], ◌∷◌, ◌++◌, length, replicate, slice_get, Option, Some, None, refl, sym, ◌∙◌, ap, subst, arith, length-append, nat_eq}
use Rattle.std.specs.Option.{option_map, option_flatten}
use Rattle.std.proofs.lemmas.Bool.Decides.{nat_tests}
use Rattle.std.proofs.lemmas.List.{length-replicate}
use Rattle.std.proofs.lemmas.Option.{slice_get_past, slice_get_within, same_Some, none-some}
use Rattle.std.proofs.lemmas.Bool.{eqb-true, eqb-false}
use Rattle.il_ast.specs.declared.value.Cell.{Cell}
use Rattle.il_ast.specs.declared.value.Cell.TheVariants.{Plain, Part, Blank}
use Rattle.il_ast.specs.Prelude.{Memory, block_at, size_at, fresh, round_16}
use Rattle.flat_code.specs.Flat.{Spot, NoAccess, AnyByte, ThisByte, Spots, Bases, Entries, Grown, ShowsCell, ShowsMemory, IsPlaced}
use Rattle.flat_code.specs.Step.{is_in, opened}
use Rattle.flat_code.proofs.Shown.{shows_grown}
use Rattle.flat_code.proofs.Runs.{not_away}
use Rattle.flat_code.proofs.Changing.{append_get, in_range, out_of_range, outside_or_in}
use Rattle.flat_code.proofs.Owning.{Ground, IsGround, is_among, among_last, IsHeld}
use Rattle.il_ast.proofs.Listed.{get_below}

-- ---- opened bytes

opened_inside : (f : Spots) (at n k : ℕ) → k < n → opened f at n (at + k) ≡ AnyByte
opened_inside f at n k h = ap (λ (t : Bool). if t then AnyByte else f (at + k)) (in_range at n (at + k) (omega arith) (omega arith))

opened_outside : (f : Spots) (at n x : ℕ) → (x < at) ⊎ (at + n ≤ x) → opened f at n x ≡ f x
opened_outside f at n x h = ap (λ (t : Bool). if t then AnyByte else f x) (out_of_range at n x h)

opened_bytes : (f : Spots) → ((x i : ℕ) → f x ≡ ThisByte i → i < 256) → (at n x i : ℕ) → opened f at n x ≡ ThisByte i → i < 256
opened_bytes f bytes at n x i h = by_test (is_in at n x) h
  where
    apart : AnyByte ≡ ThisByte i → ⊥
    apart e = cc

    by_test : (t : Bool) → (if t then AnyByte else f x) ≡ ThisByte i → i < 256
    by_test true h = absurd (apart h)
    by_test false h = bytes x i h

-- ---- one more block

-- the block stands there, all others where they stood
abbrev pub more : Bases → (b a : ℕ) → Bases
more p b a c = if nat_eq c b then Some a else p c

more_here : (p : Bases) (b a : ℕ) → more p b a b ≡ Some a
more_here p b a = ap (λ (t : Bool). if t then Some a else p b) (itself b)
  where
    itself : (n : ℕ) → nat_eq n n ≡ true
    itself n = grind (arith, nat_tests)

more_other : (p : Bases) (b a c : ℕ) → c ≢ b → more p b a c ≡ p c
more_other p b a c differ = ap (λ (t : Bool). if t then Some a else p c) (other c b differ)
  where
    other : (n m : ℕ) → n ≢ m → nat_eq n m ≡ false
    other n m h = grind (arith, nat_tests)

more_grown : (p : Bases) (b a : ℕ) → p b ≡ None → Grown p (more p b a)
more_grown p b a none c d h = by_test (nat_eq c b) refl
  where
    by_test : (t : Bool) → nat_eq c b ≡ t → (if t then Some a else p c) ≡ Some d
    by_test true e = absurd (none-some d (sym none ∙ (ap p (sym (eqb-true c b e)) ∙ h)))
    by_test false e = h

cell_grown : (e : Entries) (p q : Bases) → Grown p q → (c : Cell) (s : Spot) → ShowsCell e p c s → ShowsCell e q c s
cell_grown e p q g (Plain b) s h = h
cell_grown e p q g (Part v k) s h = (h.0, shows_grown e p q g v h.0 h.1, h.2, h.3)
cell_grown e p q g Blank s h = h

blank_get : (n k : ℕ) (c : Cell) → slice_get (replicate n Blank) k ≡ Some c → Blank ≡ c
blank_get zero k c h = absurd (none-some c (sym (slice_get_past [] k (omega arith)) ∙ h))
blank_get (suc n) zero c h = same_Some Blank c h
blank_get (suc n) (suc k) c h = blank_get n k c h

-- a live block afterwards: one of before, or the fresh one
fresh_live : (m : Memory) (size c : ℕ) (cells : List Cell) → block_at (fresh m size) c ≡ Some cells → ((c < length m) × (block_at m c ≡ Some cells)) ⊎ ((c ≡ length m) × (cells ≡ replicate size Blank))
fresh_live m size c cells h = by_item (slice_get (fresh m size) c) refl h
  where
    last : (j : ℕ) (x : Option (List Cell)) → slice_get (Some (replicate size Blank) ∷ []) j ≡ Some x → (j ≡ 0) × (Some (replicate size Blank) ≡ x)
    last zero x e = (refl, same_Some (Some (replicate size Blank)) x e)
    last (suc j) x e = absurd (none-some x (sym (slice_get_past [] j (omega arith)) ∙ e))

    by_side : (x : List Cell) → x ≡ cells → ((c < length m) × (slice_get m c ≡ Some (Some x))) ⊎ ((j : ℕ) × (c ≡ length m + j) × (slice_get (Some (replicate size Blank) ∷ []) j ≡ Some (Some x)))
        → ((c < length m) × (block_at m c ≡ Some cells)) ⊎ ((c ≡ length m) × (cells ≡ replicate size Blank))
    by_side x same (inl a) = inl (a.0, ap option_flatten a.1 ∙ ap Some same)
    by_side x same (inr a) =
        let l = last a.0 (Some x) a.2 in
        let at : c ≡ length m + a.0 = a.1 in
        let none : a.0 ≡ 0 = l.0 in
        inr (omega arith, sym same ∙ sym (same_Some (replicate size Blank) x l.1))

    by_item : (o : Option (Option (List Cell))) → slice_get (fresh m size) c ≡ o → option_flatten o ≡ Some cells
        → ((c < length m) × (block_at m c ≡ Some cells)) ⊎ ((c ≡ length m) × (cells ≡ replicate size Blank))
    by_item None e is = absurd (none-some cells is)
    by_item (Some None) e is = absurd (none-some cells is)
    by_item (Some (Some x)) e is = by_side x (same_Some x cells is) (append_get m (Some (replicate size Blank) ∷ []) c (Some x) e)

append_other : (m : Memory) (x : Option (List Cell)) (c : ℕ) → c ≢ length m → slice_get (m ++ x ∷ []) c ≡ slice_get m c
append_other [] x zero differ = absurd (differ refl)
append_other [] x (suc c) differ = refl
append_other (y ∷ m) x zero differ = refl
append_other (y ∷ m) x (suc c) differ = append_other m x c (λ e. differ (ap suc e))

unmade_size : (m : Memory) (b : ℕ) → b ≡ length m → size_at m b ≡ None
unmade_size m b e = ap (λ (o : Option (Option (List Cell))). option_map length (option_flatten o)) (slice_get_past m b (omega arith))

-- ---- memory with it

-- what is asked of the place: bytes that are away, not at 0 and not over the end
record IsRoom (f : Spots) (at n : ℕ) : Type 0 where
  away : (x : ℕ) → at ≤ x → x < at + n → f x ≡ NoAccess
  above_zero : 0 < at
  below_end : at + n < 2 ^ 64

-- a live block of before has no cell there
cell_elsewhere : (e : Entries) (p : Bases) (m : Memory) (f : Spots) (at n : ℕ) → ShowsMemory e p m f → IsRoom f at n → (b a k : ℕ) (cells : List Cell) → block_at m b ≡ Some cells → p b ≡ Some a → k < length cells
    → (a + k < at) ⊎ (at + n ≤ a + k)
cell_elsewhere e p m f at n memory room b a k cells live is lt =
    elim (outside_or_in at n (a + k)) [
      | inl out ↦ out
      | inr z ↦ absurd (not_away e p cell.0 (f (a + k)) (memory.cells b a k cells cell.0 live is cell.1) (room.away (a + k) (low z.0 z.2) (high z.0 z.1 z.2)))
    ]
  where
    cell : (c : Cell) × (slice_get cells k ≡ Some c)
    cell = get_below cells k lt

    low : (i : ℕ) → a + k ≡ at + i → at ≤ a + k
    low i e = omega arith

    high : (i : ℕ) → i < n → a + k ≡ at + i → a + k < at + n
    high i h e = omega arith

block_elsewhere : (e : Entries) (p : Bases) (m : Memory) (f : Spots) (at n : ℕ) → ShowsMemory e p m f → IsRoom f at n → (b a : ℕ) (cells : List Cell) → block_at m b ≡ Some cells → p b ≡ Some a → 0 < length cells → 0 < n
    → (a + length cells ≤ at) ⊎ (at + n ≤ a)
block_elsewhere e p m f at n memory room b a cells live is some some2 =
    elim (outside_or_in a (length cells) at) [
      | inl out ↦ sides out
      | inr z ↦ absurd (no_cell z.0 z.1 z.2 (cell_elsewhere e p m f at n memory room b a z.0 cells live is z.1))
    ]
  where
    first : (a + 0 < at) ⊎ (at + n ≤ a + 0)
    first = cell_elsewhere e p m f at n memory room b a 0 cells live is some

    right : at < a → (a + 0 < at) ⊎ (at + n ≤ a + 0) → at + n ≤ a
    right h (inl l) = absurd (omega arith)
    right h (inr l) = omega arith

    sides : (at < a) ⊎ (a + length cells ≤ at) → (a + length cells ≤ at) ⊎ (at + n ≤ a)
    sides (inl h) = inr (right h first)
    sides (inr h) = inl h

    no_cell : (k : ℕ) → k < length cells → at ≡ a + k → (a + k < at) ⊎ (at + n ≤ a + k) → ⊥
    no_cell k lt same (inl h) = omega arith
    no_cell k lt same (inr h) = omega arith

fresh_shown : (e : Entries) (p : Bases) (m : Memory) (f : Spots) (at n : ℕ) → ShowsMemory e p m f → IsRoom f at n → ShowsMemory e (more p (length m) at) (fresh m n) (opened f at n)
fresh_shown e p m f at n memory room =
    record {
      placed = λ b cells h. placed b cells (fresh_live m n b cells h);
      unmade = λ b le. unmade b le (length-append m (Some (replicate n Blank) ∷ []));
      cells = λ b a k cells c h is got. cell b a k cells c (fresh_live m n b cells h) is got;
      apart = λ b c a d xs ys differ h k is dt some some2. two b c a d xs ys differ (fresh_live m n b xs h) (fresh_live m n c ys k) is dt some some2;
      bytes = opened_bytes f memory.bytes at n;
    }
  where
    q : Bases
    q = more p (length m) at

    long : length (replicate n Blank) ≡ n
    long = length-replicate n Blank

    grown : Grown p q
    grown = more_grown p (length m) at (memory.unmade (length m) (omega arith))

    old : (b a : ℕ) → b < length m → q b ≡ Some a → p b ≡ Some a
    old b a lt is = sym (more_other p (length m) at b (omega arith)) ∙ is

    new : (b a : ℕ) → b ≡ length m → q b ≡ Some a → a ≡ at
    new b a same is = same_Some a at (sym is ∙ (ap q same ∙ more_here p (length m) at))

    placed : (b : ℕ) (cells : List Cell) → ((b < length m) × (block_at m b ≡ Some cells)) ⊎ ((b ≡ length m) × (cells ≡ replicate n Blank)) → IsPlaced q b cells
    placed b cells (inl h) =
        let was : IsPlaced p b cells = memory.placed b cells h.1 in
        record { base = was.base; is = grown b was.base was.is; above_zero = was.above_zero; below_end = was.below_end }
    placed b cells (inr h) =
        let size : length cells ≡ n = ap length h.1 ∙ long in
        let end : at + n < 2 ^ 64 = room.below_end in
        record { base = at; is = ap q h.0 ∙ more_here p (length m) at; above_zero = room.above_zero; below_end = (omega arith) }

    unmade : (b : ℕ) → length (fresh m n) ≤ b → length (fresh m n) ≡ length m + 1 → q b ≡ None
    unmade b le size = more_other p (length m) at b (omega arith) ∙ memory.unmade b (omega arith)

    cell : (b a k : ℕ) (cells : List Cell) (c : Cell) → ((b < length m) × (block_at m b ≡ Some cells)) ⊎ ((b ≡ length m) × (cells ≡ replicate n Blank)) → q b ≡ Some a → slice_get cells k ≡ Some c
        → ShowsCell e q c (opened f at n (a + k))
    cell b a k cells c (inl h) is got =
        let was : p b ≡ Some a = old b a h.0 is in
        subst (λ (s : Spot). ShowsCell e q c s)
        (sym (opened_outside f at n (a + k) (cell_elsewhere e p m f at n memory room b a k cells h.1 was (slice_get_within cells k c got))))
        (cell_grown e p q grown c (f (a + k)) (memory.cells b a k cells c h.1 was got))
    cell b a k cells c (inr h) is got =
        let blank : Blank ≡ c = blank_get n k c (ap (λ (s : List Cell). slice_get s k) (sym h.1) ∙ got) in
        let size : length cells ≡ n = ap length h.1 ∙ long in
        let within : k < length cells = slice_get_within cells k c got in
        let open_there : opened f at n (a + k) ≡ AnyByte = ap (λ i. opened f at n (i + k)) (new b a h.0 is) ∙ opened_inside f at n k (omega arith) in
        subst (λ (d : Cell). ShowsCell e q d (opened f at n (a + k))) blank (λ away. open_away (sym open_there ∙ away))
      where
        open_away : AnyByte ≡ NoAccess → ⊥
        open_away e = cc

    two : (b c a d : ℕ) (xs ys : List Cell) → b ≢ c → ((b < length m) × (block_at m b ≡ Some xs)) ⊎ ((b ≡ length m) × (xs ≡ replicate n Blank)) → ((c < length m) × (block_at m c ≡ Some ys)) ⊎ ((c ≡ length m) × (ys ≡ replicate n Blank))
        → q b ≡ Some a → q c ≡ Some d → 0 < length xs → 0 < length ys → (a + length xs ≤ d) ⊎ (d + length ys ≤ a)
    two b c a d xs ys differ (inl h) (inl k) is dt some some2 = memory.apart b c a d xs ys differ h.1 k.1 (old b a h.0 is) (old c d k.0 dt) some some2
    two b c a d xs ys differ (inl h) (inr k) is dt some some2 =
        let size : length ys ≡ n = ap length k.1 ∙ long in
        let there : d ≡ at = new c d k.0 dt in
        joined (block_elsewhere e p m f at n memory room b a xs h.1 (old b a h.0 is) some (subst (λ i. 0 < i) size some2))
      where
        joined : (a + length xs ≤ at) ⊎ (at + n ≤ a) → (a + length xs ≤ d) ⊎ (d + length ys ≤ a)
        joined s = subst (λ i. (a + length xs ≤ i) ⊎ (i + length ys ≤ a)) (sym (new c d k.0 dt)) (subst (λ i. (a + length xs ≤ at) ⊎ (at + i ≤ a)) (sym (ap length k.1 ∙ long)) s)
    two b c a d xs ys differ (inr h) (inl k) is dt some some2 =
        turned (subst (λ i. (d + length ys ≤ i) ⊎ (i + length xs ≤ d)) (sym (new b a h.0 is))
        (subst (λ i. (d + length ys ≤ at) ⊎ (at + i ≤ d)) (sym (ap length h.1 ∙ long))
        (block_elsewhere e p m f at n memory room c d ys k.1 (old c d k.0 dt) some2 (subst (λ i. 0 < i) (ap length h.1 ∙ long) some))))
      where
        turned : (d + length ys ≤ a) ⊎ (a + length xs ≤ d) → (a + length xs ≤ d) ⊎ (d + length ys ≤ a)
        turned (inl s) = inr s
        turned (inr s) = inl s
    two b c a d xs ys differ (inr h) (inr k) is dt some some2 = absurd (differ (h.0 ∙ sym k.0))

-- ---- the body with it

-- a pointer to the fresh block is shown by its address, and all stays as it was found
pub record IsMade (g : Ground) (p : Bases) (m : Memory) (owned : List ℕ) (f : Spots) (used n : ℕ) : Type 0 where
  pub bases : Bases
  pub grown : Grown p bases
  pub is : bases (length m) ≡ Some (g.base + used)
  pub held : IsHeld g bases (fresh m n) (owned ++ length m ∷ []) (opened f (g.base + used) n) (used + round_16 n)

pub makes : (g : Ground) → IsGround g → (p : Bases) (m : Memory) (owned : List ℕ) (f : Spots) (used n : ℕ) → IsHeld g p m owned f used → used + round_16 n ≤ g.size → IsMade g p m owned f used n
makes g ground p m owned f used n held fits =
    record {
      bases = more p (length m) at;
      grown = grown;
      is = more_here p (length m) at;
      held = record {
        memory = fresh_shown g.entries p m f at n held.memory room;
        grown = λ b a e. grown b a (held.grown b a e);
        above = λ x le lt. opened_outside f at n x (inr (beyond x le)) ∙ held.above x (later x le) lt;
        reach = λ x away out. opened_outside f at n x (far x out) ∙ held.reach x away out;
        others = λ b e. other b (sym (among_last b owned (length m)) ∙ e);
        mine = λ b e. own b (is_among b owned) refl (sym (among_last b owned (length m)) ∙ e);
      };
    }
  where
    at : ℕ
    at = g.base + used

    enough : (k : ℕ) → k ≤ round_16 k
    enough k = omega arith

    inside : at + n ≤ g.base + g.size
    inside = let e : n ≤ round_16 n = enough n in omega arith

    room : IsRoom f at n
    room =
        let zero_below : 0 < g.base = ground.above_zero in
        let end : g.base + g.size < 2 ^ 64 = ground.below_end in
        let i : at + n ≤ g.base + g.size = inside in
        record { away = λ x le lt. held.above x le (omega arith); above_zero = (omega arith); below_end = (omega arith) }

    grown : Grown p (more p (length m) at)
    grown = more_grown p (length m) at (held.memory.unmade (length m) (omega arith))

    beyond : (x : ℕ) → g.base + (used + round_16 n) ≤ x → at + n ≤ x
    beyond x le = let e : n ≤ round_16 n = enough n in omega arith

    later : (x : ℕ) → g.base + (used + round_16 n) ≤ x → at ≤ x
    later x le = omega arith

    far : (x : ℕ) → (x < g.base) ⊎ (g.base + g.size ≤ x) → (x < at) ⊎ (at + n ≤ x)
    far x (inl h) = inl (omega arith)
    far x (inr h) = inr (let i : at + n ≤ g.base + g.size = inside in omega arith)

    other : (b : ℕ) → is_among b owned || nat_eq b (length m) ≡ false → size_at (fresh m n) b ≡ size_at g.made b
    other b e = by_tests (is_among b owned) (nat_eq b (length m)) refl refl e
      where
        by_tests : (s t : Bool) → is_among b owned ≡ s → nat_eq b (length m) ≡ t → s || t ≡ false → size_at (fresh m n) b ≡ size_at g.made b
        by_tests false false a c e =
            ap (λ (o : Option (Option (List Cell))). option_map length (option_flatten o)) (append_other m (Some (replicate n Blank)) b (eqb-false b (length m) c)) ∙ held.others b a
        by_tests false true a c e = cc
        by_tests true t a c e = cc

    own : (b : ℕ) (s : Bool) → is_among b owned ≡ s → is_among b owned || nat_eq b (length m) ≡ true → size_at g.made b ≡ None
    own b true a e = held.mine b a
    own b false a e = sym (held.others b a) ∙ unmade_size m b (eqb-true b (length m) (last (is_among b owned) (nat_eq b (length m)) a e))
      where
        last : (s t : Bool) → s ≡ false → s || t ≡ true → t ≡ true
        last false t x e = e
        last true t x e = cc
