-- What a program's executable and a start of it show: the program's data and the words are bytes.
use Rattle.std.proofs.Common.{◌≡◌, ℕ, suc, ◌+◌, ◌*◌, ◌<◌, ◌≤◌, List, [], ◌∷◌, ◌++◌, length, map, replicate, refl, ◌∙◌, ap, subst, arith, slice_get, slice_index, Option, Some, flat_map}
use Rattle.std.specs.Int.{w64, to_le_bytes}
use Rattle.il_ast.specs.declared.datum.DataDef.{DataDef}
use Rattle.il_ast.specs.declared.datum.Field.{Field}
use Rattle.il_ast.specs.declared.datum.Field.TheVariants.{Items, Zeros}
use Rattle.il_ast.specs.declared.datum.Item.{Item}
use Rattle.il_ast.specs.declared.datum.Item.TheVariants.{Int, Bytes, Address}
use Rattle.il_ast.specs.declared.operation.Size.{Size}
use Rattle.il_ast.specs.declared.program.InText.{InText}
use Rattle.il_ast.specs.declared.program.Program.{Program}
use Rattle.il_ast.specs.declared.program.Target.{Target}
use Rattle.il_ast.specs.declared.program.Target.TheVariants.{Code, Object}
use Rattle.il_ast.specs.declared.value.Cell.{Cell}
use Rattle.il_ast.specs.declared.value.Cell.TheVariants.{Plain, Part, Blank}
use Rattle.il_ast.specs.declared.value.Value.{Value}
use Rattle.il_ast.specs.Prelude.{globals_of, item_cells, field_cells, object_cells}
use Rattle.rv_isa.specs.Prelude.{State, stack_top, argument_bytes, pointer_bytes, word_bytes, Words}
use Rattle.obj_link.specs.Prelude.{IsThere}
use Rattle.elf_file.specs.Conditions.{Executable, byte_in}
use Rattle.rv_machine.specs.Starts.{Starts}
use Rattle.flat_code.specs.Flat.{Bases, Entries}
use Rattle.promote.specs.Programs.{AreBytes, AreWords, ItemsHaveBytes, FieldsHaveBytes, ObjectsHaveBytes, AreAmong, HasBytes}
use Rattle.headline.specs.Executables.{CellsStand, BlocksStand, DataStands, NamesAreThere, places_of}

-- ---- data

-- each plain cell has a byte
abbrev PlainBytes : List Cell → Type 0
PlainBytes [] = Unit {0}
PlainBytes (Plain b ∷ cells) = (b < 256) × PlainBytes cells
PlainBytes (Part v k ∷ cells) = PlainBytes cells
PlainBytes (Blank ∷ cells) = PlainBytes cells

plain_first : (xs ys : List Cell) → PlainBytes (xs ++ ys) → PlainBytes xs
plain_first [] ys h = tt
plain_first (Plain b ∷ xs) ys h = (h.0, plain_first xs ys h.1)
plain_first (Part v k ∷ xs) ys h = plain_first xs ys h
plain_first (Blank ∷ xs) ys h = plain_first xs ys h

plain_then : (xs ys : List Cell) → PlainBytes (xs ++ ys) → PlainBytes ys
plain_then [] ys h = h
plain_then (Plain b ∷ xs) ys h = plain_then xs ys h.1
plain_then (Part v k ∷ xs) ys h = plain_then xs ys h
plain_then (Blank ∷ xs) ys h = plain_then xs ys h

bytes_are : (bs : List ℕ) → PlainBytes (map Plain bs) → AreBytes bs
bytes_are [] h = tt
bytes_are (b ∷ bs) h = (h.0, bytes_are bs h.1)

-- the cells of data that stand in memory whose bytes are bytes
cells_are : (e : Entries) (p : Bases) (byte : ℕ → Option ℕ) → ((a b : ℕ) → byte a ≡ Some b → b < 256) → (cells : List Cell) (at : ℕ) → CellsStand e p byte cells at → PlainBytes cells
cells_are e p byte small [] at h = tt
cells_are e p byte small (Plain b ∷ cells) at h = (small at b h.0, cells_are e p byte small cells (at + 1) h.1)
cells_are e p byte small (Part v k ∷ cells) at h = cells_are e p byte small cells (at + 1) h.1
cells_are e p byte small (Blank ∷ cells) at h = cells_are e p byte small cells (at + 1) h.1

items_have : (globals : List Value) (size : Size) (items : List Item) → PlainBytes (flat_map (item_cells globals size) items) → ItemsHaveBytes items
items_have globals size [] h = tt
items_have globals size (Int n ∷ items) h =
    items_have globals size items (plain_then (item_cells globals size (Int n)) (flat_map (item_cells globals size) items) h)
items_have globals size (Bytes bytes ∷ items) h = (
  bytes_are bytes (plain_first (map Plain bytes) (flat_map (item_cells globals size) items) h),
  items_have globals size items (plain_then (map Plain bytes) (flat_map (item_cells globals size) items) h),
)
items_have globals size (Address g offset ∷ items) h =
    items_have globals size items (plain_then (item_cells globals size (Address g offset)) (flat_map (item_cells globals size) items) h)

fields_have : (globals : List Value) (fields : List Field) → PlainBytes (flat_map (field_cells globals) fields) → FieldsHaveBytes fields
fields_have globals [] h = tt
fields_have globals (Items size items ∷ fields) h = (
  items_have globals size items (plain_first (flat_map (item_cells globals size) items) (flat_map (field_cells globals) fields) h),
  fields_have globals fields (plain_then (flat_map (item_cells globals size) items) (flat_map (field_cells globals) fields) h),
)
fields_have globals (Zeros n ∷ fields) h =
    fields_have globals fields (plain_then (replicate n (Plain 0)) (flat_map (field_cells globals) fields) h)

objects_have : (p : Program) (e : Entries) (bases : Bases) (byte : ℕ → Option ℕ) → ((a b : ℕ) → byte a ≡ Some b → b < 256) → (low high : ℕ) (ds : List (InText DataDef)) (places : List ℕ)
    → BlocksStand e bases byte low high (map (object_cells p) ds) places → ObjectsHaveBytes ds
objects_have p e bases byte small low high [] places h = tt
objects_have p e bases byte small low high (d ∷ ds) [] h = absurd h
objects_have p e bases byte small low high (d ∷ ds) (at ∷ places) h = (
  fields_have (globals_of p d.text) d.item.fields (cells_are e bases byte small (object_cells p d) at h.2),
  objects_have p e bases byte small (at + length (object_cells p d)) high ds places h.3,
)

-- ---- argument words

bytes_first : (xs ys : List ℕ) → AreBytes (xs ++ ys) → AreBytes xs
bytes_first [] ys h = tt
bytes_first (x ∷ xs) ys h = (h.0, bytes_first xs ys h.1)

bytes_then : (xs ys : List ℕ) → AreBytes (xs ++ ys) → AreBytes ys
bytes_then [] ys h = h
bytes_then (x ∷ xs) ys h = bytes_then xs ys h.1

-- bytes that stand in memory whose bytes are bytes
range_has : (f : ℕ → ℕ) → ((a : ℕ) → f a < 256) → (bs : List ℕ) (at : ℕ) → ((k : ℕ) → k < length bs → f (at + k) ≡ slice_index bs k) → AreBytes bs
range_has f small [] at h = tt
range_has f small (b ∷ bs) at h = (
  subst (λ n. n < 256) (h 0 (omega arith)) (small (at + 0)),
  range_has f small bs (at + 1) (λ k lt. let here : at + 1 + k ≡ at + suc k = omega arith in ap f here ∙ h (suc k) (omega (arith, lt))),
)

words_have : (words : List (List ℕ)) → AreBytes (word_bytes words) → AreWords words
words_have [] h = tt
words_have (w ∷ words) h =
    (bytes_first w (0 ∷ []) (bytes_first (w ++ 0 ∷ []) (word_bytes words) h), words_have words (bytes_then (w ++ 0 ∷ []) (word_bytes words) h))

arguments_have : (words : List (List ℕ)) → AreBytes (argument_bytes words) → AreWords words
unfolding argument_bytes
arguments_have words h =
    let before : List ℕ = to_le_bytes w64 (length words) ++ pointer_bytes (stack_top + 40 + 8 * length words) words ++ replicate 32 0 in
    words_have words (bytes_then before (word_bytes words) h)

-- ---- names

among : (functions objects : ℕ) (targets : List Target) → ((n : ℕ) (t : Target) → slice_get targets n ≡ Some t → IsThere functions objects t) → AreAmong objects targets
among functions objects [] h = tt
among functions objects (Code c ∷ targets) h = among functions objects targets (λ n. h (suc n))
among functions objects (Object k ∷ targets) h = (h 0 (Object k) refl, among functions objects targets (λ n. h (suc n)))

-- ---- the whole

pub has_bytes : (p : Program) (codes : List Words) (x : Executable) (words : List (List ℕ)) (s : State) → NamesAreThere p → DataStands p (places_of p codes) x → Starts x words s → length words ≤ 1024 → HasBytes p words
has_bytes p codes x words s has stands starts few =
    let at = places_of p codes in
    record {
      names = λ t targets here. among (length p.functions) (length p.objects) targets (λ n target found. has.targets t n targets target here found);
      data_bytes =
          objects_have p at.entries (λ b. slice_get at.objects b) (byte_in x)
          (λ a b found. subst (λ n. n < 256) (starts.bytes a b found) (starts.begins.state.bytes a)) at.low at.high p.objects at.objects stands.objects;
      word_bytes = arguments_have words (range_has s.bytes starts.begins.state.bytes (argument_bytes words) stack_top starts.begins.arguments);
      count = omega (arith, few);
    }
