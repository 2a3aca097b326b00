-- What global names are worth, and the memory that a program starts in (QBE IL, "Data").
use Rattle.std.specs.Prelude.{ℕ, zero, suc, ◌+◌, ◌%◌, ◌^◌, nat_eq, if◌then◌else◌, List, [], ◌∷◌, ◌++◌, map, length, replicate, slice_get, Option, Some, None, flat_map}
use Rattle.il_ast.specs.Types.{Item, Bytes, Address, Field, Items, Zeros, DataDef, Size, Target, Code, Object, InText, Program, Value, Integer, Pointer, Function, Cell, Plain, Blank}
use Rattle.il_ast.specs.declared.datum.Item.TheVariants.{Int}
use Rattle.il_ast.specs.Values.{bytes_of, byte_count}
use Rattle.il_ast.specs.Memory.{Memory, parts}

-- a datum is worth a pointer to its block, whose number is the datum's
abbrev pub target_value : Target → Value
target_value (Code f) = Function f
target_value (Object k) = Pointer k 0

abbrev pub values_of : Option (List Target) → List Value
values_of None = []
values_of (Some targets) = map target_value targets

-- the values of the global names of text t, in the order of its symbols
abbrev pub globals_of : Program → ℕ → List Value
globals_of p t = values_of (slice_get p.targets t)

-- ---- data

-- a name with an offset: a pointer moved by it; a function, or eight blank cells where its offset
-- isn't 0
abbrev pub address_cells : Option Value → ℕ → List Cell
address_cells (Some (Pointer b o)) offset = parts (Pointer b ((o + offset) % 2 ^ 64))
address_cells (Some (Function f)) offset =
    if nat_eq offset 0 then parts (Function f) else replicate 8 Blank
address_cells (Some (Integer n)) offset = replicate 8 Blank
address_cells None offset = replicate 8 Blank

abbrev pub item_cells : List Value → Size → Item → List Cell
item_cells globals size (Int n) = map Plain (bytes_of (byte_count size) n)
item_cells globals size (Bytes bytes) = map Plain bytes
item_cells globals size (Address g offset) = address_cells (slice_get globals g) offset

abbrev pub field_cells : List Value → Field → List Cell
field_cells globals (Items size items) = flat_map (item_cells globals size) items
field_cells globals (Zeros n) = replicate n (Plain 0)

-- the cells of a datum: nothing is put between its items
abbrev pub object_cells : Program → InText DataDef → List Cell
object_cells p d = flat_map (field_cells (globals_of p d.text)) d.item.fields

-- ---- arguments

-- an argument word, with its closing zero
abbrev pub word_cells : List ℕ → List Cell
word_cells word = map Plain (word ++ 0 ∷ [])

-- pointers to n blocks from block b on
abbrev pub pointers_from : ℕ → ℕ → List Cell
pointers_from b zero = []
pointers_from b (suc n) = parts (Pointer b 0) ++ pointers_from (b + 1) n

-- the argument list: a pointer to each word, and eight zero bytes
abbrev pub list_cells : ℕ → ℕ → List Cell
list_cells first n = pointers_from first n ++ replicate 8 (Plain 0)

-- a block for each datum, then one for each word, then one for the argument list
abbrev pub start_memory : Program → List (List ℕ) → Memory
start_memory p words =
    map (λ (d : InText DataDef). Some (object_cells p d)) p.objects
    ++ (map (λ (w : List ℕ). Some (word_cells w)) words
    ++ Some (list_cells (length p.objects) (length words)) ∷ [])
