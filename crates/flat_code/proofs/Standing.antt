-- Where the bytes of a live block stand.
use Rattle.std.proofs.Common.{◌≡◌, ◌≢◌, ℕ, ◌+◌, ◌%◌, ◌^◌, ◌<◌, ◌≤◌, ◌⊎◌, inl, inr, true, false, List, length, Option, Some, None, refl, sym, ◌∙◌, ap, arith, nat_le, nat_lt}
use Rattle.std.proofs.lemmas.Bool.Decides.{nat_tests}
use Rattle.std.specs.Option.{option_map, option_map_or}
use Rattle.il_ast.specs.declared.value.Value.TheVariants.{Pointer}
use Rattle.il_ast.specs.declared.value.Cell.{Cell}
use Rattle.il_ast.specs.Prelude.{Memory, block_at, reaches, lies_in}
use Rattle.flat_code.specs.Flat.{Bases, Entries, Spots, Shows, ShowsMemory, IsPlaced}
use Rattle.std.proofs.lemmas.Option.{same_Some}

-- a pointer to offset o of a live block is shown by the address of its first byte and the offset
pub record Stands (p : Bases) (b o x : ℕ) (cells : List Cell) : Type 0 where
  pub base : ℕ
  pub is : p b ≡ Some base
  pub at : x ≡ base + o
  pub above_zero : 0 < base
  pub below_end : base + length cells < 2 ^ 64

pub stands : (e : Entries) (p : Bases) (m : Memory) (f : Spots) (b o x : ℕ) (cells : List Cell) → ShowsMemory e p m f → block_at m b ≡ Some cells → o ≤ length cells → Shows e p (Pointer b o) x → Stands p b o x cells
stands e p m f b o x cells memory live le h =
    let placed : IsPlaced p b cells = memory.placed b cells live in
    let same : h.0 ≡ placed.base = same_Some h.0 placed.base (sym h.1 ∙ placed.is) in
    record {
      base = placed.base;
      is = placed.is;
      at = h.2 ∙ (ap (λ a. (a + o) % 2 ^ 64) same ∙ small placed.base o (length cells) le placed.below_end);
      above_zero = placed.above_zero;
      below_end = placed.below_end;
    }
  where
    small : (a o n : ℕ) → o ≤ n → a + n < 2 ^ 64 → (a + o) % 2 ^ 64 ≡ a + o
    small a o n le lt = omega arith

reached_of : (x : Option (List Cell)) (o : ℕ) → option_map_or (λ size. nat_le o size) (option_map length x) false ≡ true → (cells : List Cell) × (x ≡ Some cells) × (o ≤ length cells)
reached_of None o h = cc
reached_of (Some cells) o h = (cells, refl, le o (length cells) h)
  where
    le : (m n : ℕ) → nat_le m n ≡ true → m ≤ n
    le m n h = grind (arith, nat_tests)

pub reached : (m : Memory) (b o : ℕ) → reaches m b o ≡ true → (cells : List Cell) × (block_at m b ≡ Some cells) × (o ≤ length cells)
reached m b o h = reached_of (block_at m b) o h

inside_of : (x : Option (List Cell)) (o : ℕ) → option_map_or (λ size. nat_lt o size) (option_map length x) false ≡ true → (cells : List Cell) × (x ≡ Some cells) × (o < length cells)
inside_of None o h = cc
inside_of (Some cells) o h = (cells, refl, lt o (length cells) h)
  where
    lt : (m n : ℕ) → nat_lt m n ≡ true → m < n
    lt m n h = grind (arith, nat_tests)

pub inside : (m : Memory) (b o : ℕ) → lies_in m b o ≡ true → (cells : List Cell) × (block_at m b ≡ Some cells) × (o < length cells)
inside m b o h = inside_of (block_at m b) o h

-- two cells of two live blocks have two addresses
pub two_addresses : (e : Entries) (p : Bases) (m : Memory) (f : Spots) (b c a d k l : ℕ) (xs ys : List Cell) → ShowsMemory e p m f → b ≢ c → block_at m b ≡ Some xs → block_at m c ≡ Some ys → p b ≡ Some a → p c ≡ Some d
    → k < length xs → l < length ys → a + k ≢ d + l
two_addresses e p m f b c a d k l xs ys memory differ live also at dt lt lt2 =
    sides (length xs) (length ys) lt lt2 (memory.apart b c a d xs ys differ live also at dt (some k (length xs) lt) (some l (length ys) lt2))
  where
    some : (i n : ℕ) → i < n → 0 < n
    some i n h = omega arith

    sides : (n j : ℕ) → k < n → l < j → (a + n ≤ d) ⊎ (d + j ≤ a) → a + k ≢ d + l
    sides n j lt lt2 (inl h) same = absurd (omega arith)
    sides n j lt lt2 (inr h) same = absurd (omega arith)
