-- What a change of one block does.
use Rattle.std.specs.Prelude.{◌≡◌, ◌≢◌, ℕ, ◌+◌, Bool, true, false, nat_eq, nat_le, ◌||◌, if◌then◌else◌, List, Option, Some, None, is_some, option_and_then, zero, suc, [], ◌∷◌, ◌<◌, length, slice_index}
use Rattle.il_ast.specs.declared.value.Value.{Value}
use Rattle.il_ast.specs.declared.value.Value.TheVariants.{Integer, Pointer, Function}
use Rattle.il_ast.specs.declared.value.Cell.{Cell}
use Rattle.il_ast.specs.Prelude.{cells_for, put, span, Memory, apart_or_same, cells_at, write_at}
use Rattle.il_mem.specs.declared.memory.Place.{Place}

abbrev pub integer_in : Value → Option ℕ
integer_in (Integer n) = Some n
integer_in (Pointer b o) = None
integer_in (Function f) = None

-- the cells with n cells for a value from offset o
abbrev pub value_put : ℕ → ℕ → Value → List Cell → Option (List Cell)
value_put o n v cells = option_and_then (λ new. put o new cells) (cells_for n v)

-- the cells with these from offset o
abbrev pub cells_put : ℕ → Option (List Cell) → List Cell → Option (List Cell)
cells_put o new cells = option_and_then (λ xs. put o xs cells) new

-- the cells with n of them, from offset o, copied to offset q; the two spans are the same or apart
abbrev pub within_put : ℕ → ℕ → ℕ → List Cell → Option (List Cell)
within_put q o n cells =
    if nat_eq o q || (nat_le (o + n) q || nat_le (q + n) o) then cells_put q (span o n cells) cells
    else None

-- the block becomes what f gives for it; where f gives nothing the answer is false and the block
-- stays
pub record ChangesBlock (f : List Cell → Option (List Cell)) (old new : List Cell)
    (changed : Bool) : Type 0 where
  pub done : changed ≡ true → f old ≡ Some new
  pub nothing : changed ≡ false → f old ≡ None
  pub stays : changed ≡ false → new ≡ old

-- the block with this number becomes what f gives for it, and the others stay; without such a
-- block, or where f gives nothing, the answer is false and all stay
pub record Changes (f : List Cell → Option (List Cell)) (old new : ℕ → Option (List Cell))
    (key : ℕ) (changed : Bool) : Type 0 where
  pub done : changed ≡ true → new key ≡ option_and_then f (old key)
  pub found : changed ≡ is_some (option_and_then f (old key))
  pub stays : changed ≡ false → new key ≡ old key
  pub others : (q : ℕ) → q ≢ key → new q ≡ old q

-- ---- places that pointers point to, and what a change of the memory gives
abbrev pub place_in : Value → Option Place
place_in (Pointer b o) = Some (record { block = b; offset = o })
place_in (Integer n) = None
place_in (Function f) = None

-- n cells from o in block a, copied to q in block b
abbrev pub copied_place : Memory → ℕ → ℕ → ℕ → ℕ → ℕ → Option Memory
copied_place m n a o b q =
    if apart_or_same n a o b q then option_and_then (write_at m b q) (cells_at m a o n) else None

-- the answer says whether there is a wanted memory; then it is the new one, and else nothing has
-- changed
pub record Gives (wanted : Option Memory) (old new : Memory) (given : Bool) : Type 0 where
  pub done : given ≡ true → wanted ≡ Some new
  pub nothing : given ≡ false → wanted ≡ None
  pub stays : given ≡ false → new ≡ old

-- ---- the blocks by their numbers

-- the cells of so many blocks from number b on
abbrev pub blocks : (ℕ → Option (List Cell)) → ℕ → ℕ → List (Option (List Cell))
blocks f b zero = []
blocks f b (suc n) = f b ∷ blocks f (b + 1) n

-- ---- blocks found by their numbers

-- the cells of the block beside a number
abbrev pub found : List ℕ → List (List Cell) → ℕ → Option (List Cell)
found [] blocks q = None
found (n ∷ numbers) [] q = None
found (n ∷ numbers) (b ∷ blocks) q = if nat_eq n q then Some b else found numbers blocks q

-- each number is below those after it
abbrev pub Rising : List ℕ → Type 0
Rising numbers =
    (i j : ℕ) → i < j → j < length numbers → slice_index numbers i < slice_index numbers j

-- where a number stands among these, or none where it doesn't
abbrev pub Stands : List ℕ → ℕ → Option ℕ → Type 0
Stands numbers q None = (k : ℕ) → k < length numbers → slice_index numbers k ≢ q
Stands numbers q (Some at) = (at < length numbers) × (slice_index numbers at ≡ q)

-- a block beside each number; the numbers rise, and are below the count of the blocks made
pub record Numbered (numbers : List ℕ) (blocks : List (List Cell)) (made : ℕ) : Type 0 where
  pub as_many : length blocks ≡ length numbers
  pub rising : Rising numbers
  pub below : (k : ℕ) → k < length numbers → slice_index numbers k < made
