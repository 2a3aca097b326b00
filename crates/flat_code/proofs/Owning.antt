-- What a body has made of the memory and the bytes that it found.
use Rattle.std.proofs.Common.{◌≡◌, ℕ, zero, suc, ◌+◌, ◌^◌, ◌<◌, ◌≤◌, ◌⊎◌, Bool, true, false, ◌||◌, if◌then◌else◌, List, [], ◌∷◌, ◌++◌, length, Some, None, refl, sym, ◌∙◌, ap, arith, nat_eq}
use Rattle.std.specs.Option.{option_map, option_flatten}
use Rattle.std.proofs.lemmas.Option.{slice_get_past, none-some}
use Rattle.std.proofs.lemmas.Bool.{eqb-true, eqb-false}
use Rattle.il_ast.specs.declared.value.Cell.{Cell}
use Rattle.il_ast.specs.Prelude.{Memory, block_at, size_at, free, free_all}
use Rattle.flat_code.specs.Flat.{NoAccess, Spots, Bases, Entries, Grown, ShowsMemory, AreEntries, Clear, SameReach, SameBlocks}
use Rattle.flat_code.proofs.Changing.{block_other}

-- what stays during the run: functions' addresses, the bytes for blocks, and the addresses, blocks and bytes that the body found
pub record Ground : Type 0 where
  pub entries : Entries
  pub base : ℕ
  pub size : ℕ
  pub bases : Bases
  pub made : Memory
  pub before : Spots

pub record IsGround (g : Ground) : Type 0 where
  pub known : AreEntries g.entries
  pub memory : ShowsMemory g.entries g.bases g.made g.before
  pub clear : Clear g.base (g.base + g.size) g.before
  pub above_zero : 0 < g.base
  pub below_end : g.base + g.size < 2 ^ 64

-- ---- the blocks that the body made

abbrev pub is_among : ℕ → List ℕ → Bool
is_among b [] = false
is_among b (c ∷ cs) = nat_eq b c || is_among b cs

pub among_last : (b : ℕ) (cs : List ℕ) (c : ℕ) → is_among b (cs ++ c ∷ []) ≡ is_among b cs || nat_eq b c
among_last b [] c = swapped (nat_eq b c)
  where
    swapped : (s : Bool) → s || false ≡ false || s
    swapped true = refl
    swapped false = refl
among_last b (d ∷ cs) c = ap (λ (s : Bool). nat_eq b d || s) (among_last b cs c) ∙ joined (nat_eq b d) (is_among b cs) (nat_eq b c)
  where
    joined : (s t u : Bool) → s || (t || u) ≡ (s || t) || u
    joined true t u = refl
    joined false t u = refl

-- memory and bytes during the run: all shown, the rest of the area still away, no further address outside of it; a block that the body didn't make
-- is as large as it found it, and one that it made wasn't live
pub record IsHeld (g : Ground) (p : Bases) (m : Memory) (owned : List ℕ) (f : Spots) (used : ℕ) : Type 0 where
  pub memory : ShowsMemory g.entries p m f
  pub grown : Grown g.bases p
  pub above : Clear (g.base + used) (g.base + g.size) f
  pub reach : (x : ℕ) → g.before x ≡ NoAccess → (x < g.base) ⊎ (g.base + g.size ≤ x) → f x ≡ NoAccess
  pub others : (b : ℕ) → is_among b owned ≡ false → size_at m b ≡ size_at g.made b
  pub mine : (b : ℕ) → is_among b owned ≡ true → size_at g.made b ≡ None

-- after a change that keeps the blocks and gives no further address, whether here or in a call
pub held_later : (g : Ground) (p q : Bases) (m n : Memory) (owned : List ℕ) (f h : Spots) (used : ℕ) → IsHeld g p m owned f used → Grown p q → ShowsMemory g.entries q n h → SameReach f h → SameBlocks m n → IsHeld g q n owned h used
held_later g p q m n owned f h used held grown memory reach sizes =
    record {
      memory = memory;
      grown = λ b a e. grown b a (held.grown b a e);
      above = λ x le lt. reach x (held.above x le lt);
      reach = λ x away out. reach x (held.reach x away out);
      others = λ b e. sizes b ∙ held.others b e;
      mine = held.mine;
    }

-- ---- freeing

free_here : (m : Memory) (b : ℕ) → block_at (free m b) b ≡ None
free_here [] b = ap option_flatten (slice_get_past [] b (omega arith))
free_here (x ∷ m) zero = refl
free_here (x ∷ m) (suc b) = free_here m b

pub freed_size : (m : Memory) (bs : List ℕ) (c : ℕ) → size_at (free_all m bs) c ≡ (if is_among c bs then None else size_at m c)
freed_size m [] c = refl
freed_size m (b ∷ bs) c = freed_size (free m b) bs c ∙ by_test (nat_eq c b) (is_among c bs) refl
  where
    by_test : (s t : Bool) → nat_eq c b ≡ s → (if t then None else size_at (free m b) c) ≡ (if s || t then None else size_at m c)
    by_test true true e = refl
    by_test false true e = refl
    by_test true false e = ap (λ i. size_at (free m b) i) (eqb-true c b e) ∙ ap (option_map length) (free_here m b)
    by_test false false e = ap (option_map length) (block_other m b c None (eqb-false c b e))

-- a block that is live afterwards was not freed, and is as it was
pub freed_live : (m : Memory) (bs : List ℕ) (c : ℕ) (cells : List Cell) → block_at (free_all m bs) c ≡ Some cells → (is_among c bs ≡ false) × (block_at m c ≡ Some cells)
freed_live m [] c cells h = (refl, h)
freed_live m (b ∷ bs) c cells h = by_test (nat_eq c b) refl (freed_live (free m b) bs c cells h)
  where
    by_test : (s : Bool) → nat_eq c b ≡ s → (is_among c bs ≡ false) × (block_at (free m b) c ≡ Some cells) → (s || is_among c bs ≡ false) × (block_at m c ≡ Some cells)
    by_test true e rest = absurd (none-some cells (sym (ap (λ i. block_at (free m b) i) (eqb-true c b e) ∙ free_here m b) ∙ rest.1))
    by_test false e rest = (rest.0, sym (block_other m b c None (eqb-false c b e)) ∙ rest.1)
