-- Memory (QBE IL, "Memory"): blocks of cells, with no addresses. A block is known by its number,
-- which is never used again.
use Rattle.std.specs.Prelude.{ℕ, zero, suc, ◌+◌, Bool, false, not, nat_eq, nat_le, ◌&&◌, ◌||◌, if◌then◌else◌, List, [], ◌∷◌, ◌++◌, map, length, take, drop, replicate, slice_get, slice_set, Option, Some, None}
use Rattle.std.specs.Option.{option_map, option_and_then, option_flatten}
use Rattle.il_ast.specs.Types.{Value, Integer, Pointer, Function, Cell, Plain, Part, Blank}
use Rattle.il_ast.specs.Values.{bytes_of, number_of, same_value}

-- the blocks made so far, by number: the cells of a live one, none for a dead one
abbrev pub Memory : Type 0
Memory = List (Option (List Cell))

-- the cells of a block, where it is live
abbrev pub block_at : Memory → ℕ → Option (List Cell)
block_at m b = option_flatten (slice_get m b)

-- ---- cells and values

-- the eight parts of a pointer or function value
abbrev pub parts : Value → List Cell
parts v = Part v 0 ∷ Part v 1 ∷ Part v 2 ∷ Part v 3 ∷ Part v 4 ∷ Part v 5 ∷ Part v 6 ∷ Part v 7 ∷ []

-- n cells for a value: the low bytes of an integer, or the eight parts of another value
abbrev pub cells_for : ℕ → Value → Option (List Cell)
cells_for n (Integer k) = Some (map Plain (bytes_of n k))
cells_for n (Pointer b o) = if nat_eq n 8 then Some (parts (Pointer b o)) else None
cells_for n (Function f) = if nat_eq n 8 then Some (parts (Function f)) else None

-- the bytes of cells that are bytes
abbrev pub plain_bytes : List Cell → Option (List ℕ)
plain_bytes [] = Some []
plain_bytes (Plain b ∷ cells) = option_map (λ bytes. b ∷ bytes) (plain_bytes cells)
plain_bytes (Part v i ∷ cells) = None
plain_bytes (Blank ∷ cells) = None

-- these cells are the parts of v from part k to the last
abbrev pub are_parts_from : ℕ → Value → List Cell → Bool
are_parts_from k v [] = nat_eq k 8
are_parts_from k v (Plain b ∷ cells) = false
are_parts_from k v (Part u i ∷ cells) =
    same_value u v && (nat_eq i k && are_parts_from (k + 1) v cells)
are_parts_from k v (Blank ∷ cells) = false

-- the value of these cells: the one whose eight parts they are, in order, or else the number of
-- their bytes
abbrev pub value_of : List Cell → Option Value
value_of (Part v i ∷ cells) = if are_parts_from 0 v (Part v i ∷ cells) then Some v else None
value_of cells = option_map Integer (option_map number_of (plain_bytes cells))

-- ---- spans

-- the n cells from offset o, where they lie wholly inside
abbrev pub span : ℕ → ℕ → List Cell → Option (List Cell)
span o n cells = if nat_le (o + n) (length cells) then Some (take n (drop o cells)) else None

-- the cells with new ones from offset o, where those lie wholly inside
abbrev pub put : ℕ → List Cell → List Cell → Option (List Cell)
put o new cells =
    if nat_le (o + length new) (length cells)
    then Some (take o cells ++ (new ++ drop (o + length new) cells)) else None

-- the n cells from offset o of a live block
abbrev pub cells_at : Memory → ℕ → ℕ → ℕ → Option (List Cell)
cells_at m b o n = option_and_then (span o n) (block_at m b)

-- the memory with these cells from offset o of a live block
abbrev pub write_at : Memory → ℕ → ℕ → List Cell → Option Memory
write_at m b o new =
    option_map (λ cells. slice_set m b (Some cells)) (option_and_then (put o new) (block_at m b))

-- ---- access

-- the value of the n cells that the pointer points to
unfoldable pub load : Memory → ℕ → Value → Option Value
load m n (Pointer b o) = option_and_then value_of (cells_at m b o n)
load m n (Integer k) = None
load m n (Function f) = None

-- the memory with the n cells for v where the pointer points to
unfoldable pub store : Memory → ℕ → Value → Value → Option Memory
store m n (Pointer b o) v = option_and_then (write_at m b o) (cells_for n v)
store m n (Integer k) v = None
store m n (Function f) v = None

-- n cells from o in block a, and n from q in block b: no cell in common, or the same cells
abbrev pub apart_or_same : ℕ → ℕ → ℕ → ℕ → ℕ → Bool
apart_or_same n a o b q = not (nat_eq a b) || (nat_eq o q || (nat_le (o + n) q || nat_le (q + n) o))

-- a copy of n cells as they are, blank ones too; where n is 0 nothing is done, whatever the values
unfoldable pub copy : Memory → ℕ → Value → Value → Option Memory
copy m zero from to = Some m
copy m (suc n) (Pointer a o) (Pointer b q) =
    if apart_or_same (suc n) a o b q then option_and_then (write_at m b q) (cells_at m a o (suc n))
    else None
copy m (suc n) from to = None

-- ---- blocks

-- the memory with one more block, of blank cells; its number is the length of the memory before
abbrev pub fresh : Memory → ℕ → Memory
fresh m size = m ++ Some (replicate size Blank) ∷ []

-- the memory in which a block is dead
abbrev pub free : Memory → ℕ → Memory
free m b = slice_set m b None

abbrev pub free_all : Memory → List ℕ → Memory
free_all m [] = m
free_all m (b ∷ bs) = free_all (free m b) bs

-- the size of a live block
abbrev pub size_at : Memory → ℕ → Option ℕ
size_at m b = option_map length (block_at m b)
