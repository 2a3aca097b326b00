-- A program's code and data at their addresses.
use Rattle.std.specs.Prelude.{◌≡◌, ℕ, ◌+◌, ◌-◌, ◌*◌, ◌%◌, ◌^◌, ◌<◌, ◌≤◌, List, [], ◌∷◌, ◌++◌, length, map, replicate, slice_index, flat_map, Bool, true, ◌&&◌, slice_get, Option, Some, None, option_and_then, nat_eq, if◌then◌else◌}
use Rattle.std.specs.Int.{byte_at, w64, to_le_bytes}
use Rattle.il_ast.specs.declared.datum.DataDef.{DataDef}
use Rattle.il_ast.specs.declared.function.Func.{Func}
use Rattle.il_ast.specs.declared.program.InText.{InText}
use Rattle.il_ast.specs.declared.program.Program.{Program}
use Rattle.il_ast.specs.declared.value.Callee.{Callee}
use Rattle.il_ast.specs.declared.value.Callee.TheVariants.{Defined, SystemWrite, SystemExit}
use Rattle.il_ast.specs.declared.value.Cell.{Cell}
use Rattle.il_ast.specs.declared.value.Cell.TheVariants.{Plain, Part, Blank}
use Rattle.il_ast.specs.declared.value.Value.{Value}
use Rattle.il_ast.specs.declared.value.Value.TheVariants.{Integer, Pointer, Function}
use Rattle.il_ast.specs.Prelude.{weight, round_16, object_cells, bytes_of, byte_count}
use Rattle.obj_link.specs.declared.placing.addresses.Addresses.{Addresses}
use Rattle.obj_link.specs.Image.{Contents, code_start, code_size, data_start, write_address, exit_address, functions_start, image_end, round_to_page}
use Rattle.obj_link.specs.Limits.{object_size}
use Rattle.il_ast.specs.declared.program.Target.{Target}
use Rattle.il_ast.specs.declared.program.Target.TheVariants.{Code, Object}
use Rattle.rv_isa.specs.Prelude.{Words, IsCode, filled, all_reach}
use Rattle.obj_link.specs.Natives.{start_words, write_words, exit_words}
use Rattle.il_types.specs.declared.checked.Checked.{Checked}
use Rattle.obj_link.specs.Main.{is_main, IsMain}
use Rattle.obj_link.specs.Program.{IsProgram}
use Rattle.il_ast.specs.declared.datum.Item.{Item}
use Rattle.il_ast.specs.declared.datum.Item.TheVariants.{Int, Bytes, Address}
use Rattle.il_ast.specs.declared.datum.Field.{Field}
use Rattle.il_ast.specs.declared.datum.Field.TheVariants.{Items, Zeros}
use Rattle.il_ast.specs.declared.operation.Size.{Size}

-- ---- what an image of a program is: how its functions and its data stand, and which bytes the data
-- have.
-- ---- addresses

-- Functions stand at these addresses, one after another from `at` to `end`, each with a number of
-- words: at least one, so that no two stand at one address, and at most 32 for each unit of its
-- weight and 256 more.
abbrev pub StandFrom : (at end : ℕ) → (addresses : List ℕ) → List (InText Func) → Type 0
StandFrom at end [] [] = at ≡ end
StandFrom at end [] (f ∷ fs) = ⊥
StandFrom at end (a ∷ addresses) [] = ⊥
StandFrom at end (a ∷ addresses) (f ∷ fs) =
    (a ≡ at) × (words : ℕ) × (0 < words) × (words ≤ 32 * weight f.item + 256)
    × StandFrom (at + 4 * words) end addresses fs

-- data stand one after another, each from a multiple of 16
abbrev pub object_addresses : (at : ℕ) → List (InText DataDef) → List ℕ
object_addresses at [] = []
object_addresses at (d ∷ ds) = at ∷ object_addresses (at + round_16 (object_size d.item)) ds

abbrev pub callee_address : Addresses → Callee → ℕ
callee_address a (Defined k) = slice_index a.functions k
callee_address a SystemWrite = write_address
callee_address a SystemExit = exit_address

-- ---- the bytes of data

-- the number that stands for a value
abbrev pub value_number : Addresses → Value → ℕ
value_number a (Integer n) = n
value_number a (Pointer b o) = (slice_index a.objects b + o) % 2 ^ 64
value_number a (Function f) = callee_address a f

-- a blank cell is zero
abbrev pub cell_byte : Addresses → Cell → ℕ
cell_byte a (Plain b) = b
cell_byte a (Part v k) = byte_at k (value_number a v)
cell_byte a Blank = 0

-- zeros after the bytes, up to a multiple of 16
unfoldable pub in_slots : List ℕ → List ℕ
in_slots bytes = bytes ++ replicate (round_16 (length bytes) - length bytes) 0

abbrev pub object_bytes : Addresses → Program → InText DataDef → List ℕ
object_bytes a p d = in_slots (map (cell_byte a) (object_cells p d))

-- ---- the whole

-- An image of the program: its code is that of the start, `write` and `exit` and then of each
-- function, and its data are the program's, with addresses for what they name.
pub record IsImageOf (p : Program) (image : Contents) : Type 0 where
  pub addresses : Addresses
  pub functions : StandFrom functions_start (code_start + code_size image) addresses.functions
      p.functions
  pub objects : addresses.objects ≡ object_addresses (data_start image) p.objects
  pub data_bytes : image.data_bytes ≡ flat_map (object_bytes addresses p) p.objects

-- ---- addresses

-- functions stand one after another
abbrev pub function_addresses : (at : ℕ) → List Words → List ℕ
function_addresses at [] = []
function_addresses at (c ∷ codes) = at ∷ function_addresses (at + 4 * length c.words) codes

-- where the last one ends
abbrev pub functions_end : (at : ℕ) → List Words → ℕ
functions_end at [] = at
functions_end at (c ∷ codes) = functions_end (at + 4 * length c.words) codes

-- where the last one's slot ends
abbrev pub objects_end : (at : ℕ) → List (InText DataDef) → ℕ
objects_end at [] = at
objects_end at (d ∷ ds) = objects_end (at + round_16 (object_size d.item)) ds

-- the data begin on the first page after the code
abbrev pub objects_start : List Words → ℕ
objects_start codes = code_start + round_to_page (functions_end functions_start codes - code_start)

abbrev pub addresses_of : Program → List Words → Addresses
addresses_of p codes = record {
  functions = function_addresses functions_start codes;
  objects = object_addresses (objects_start codes) p.objects;
}

-- ---- what names are worth

abbrev pub target_address : Addresses → Option Target → ℕ
target_address a None = 0
target_address a (Some (Code f)) = callee_address a f
target_address a (Some (Object k)) = slice_index a.objects k

-- the meaning of name n of text t
abbrev pub meaning : List (List Target) → (t n : ℕ) → Option Target
meaning targets t n = option_and_then (λ ts. slice_get ts n) (slice_get targets t)

abbrev pub name_address : Addresses → List (List Target) → (t n : ℕ) → ℕ
name_address a targets t n = target_address a (meaning targets t n)

-- ---- code

-- each function's words, from an address on, with the addresses of its text's names
abbrev pub functions_words : Addresses → List (List Target) → (at : ℕ) → List Words →
    List (InText Func) → List ℕ
functions_words a targets at [] fs = []
functions_words a targets at (c ∷ codes) [] = []
functions_words a targets at (c ∷ codes) (f ∷ fs) =
    filled at (name_address a targets f.text) c.words c.holes
    ++ functions_words a targets (at + 4 * length c.words) codes fs

abbrev pub code_of : Addresses → Program → List Words → List ℕ
code_of a p codes =
    start_words (callee_address a (Defined p.main)) ++ write_words ++ exit_words
    ++ functions_words a p.targets functions_start codes p.functions

-- each call reaches its function
abbrev pub functions_reach : Addresses → List (List Target) → (at : ℕ) → List Words →
    List (InText Func) → Bool
functions_reach a targets at [] fs = true
functions_reach a targets at (c ∷ codes) [] = true
functions_reach a targets at (c ∷ codes) (f ∷ fs) =
    all_reach at (name_address a targets f.text) c.holes
    && functions_reach a targets (at + 4 * length c.words) codes fs

-- ---- the whole

abbrev pub contents_with : Addresses → Program → List Words → Contents
contents_with a p codes =
    record { code = code_of a p codes; data_bytes = flat_map (object_bytes a p) p.objects }

-- all calls of a program whose functions have these words reach their functions
abbrev pub calls_reach : Program → List Words → Bool
calls_reach p codes =
    functions_reach (addresses_of p codes) p.targets functions_start codes p.functions

-- the image of a program whose functions have these words
abbrev pub contents_of : Program → List Words → Contents
contents_of p codes = contents_with (addresses_of p codes) p codes

-- all of it lies below the stack
abbrev pub FitsBelow : Program → List Words → Type 0
FitsBelow p codes = objects_end (objects_start codes) p.objects ≤ image_end

-- each keeps what the words of a function keep
abbrev pub EveryCode : List Words → Type 0
EveryCode [] = Unit {0}
EveryCode (c ∷ codes) = IsCode c × EveryCode codes

-- one code for each function, of at most 32 words for each unit of its weight and 256 more
abbrev pub AreCodes : List Words → List (InText Func) → Type 0
AreCodes [] [] = Unit {0}
AreCodes [] (f ∷ fs) = ⊥
AreCodes (c ∷ codes) [] = ⊥
AreCodes (c ∷ codes) (f ∷ fs) = (length c.words ≤ 32 * weight f.item + 256) × AreCodes codes fs

-- ---- the laws of linking

-- texts are at most one program
abbrev pub AtMostOneProgram : Type 0
AtMostOneProgram =
    (texts : List Checked) (p q : Program) → IsProgram texts p → IsProgram texts q → p ≡ q

-- of so many functions and data, one that is there, or a predefined function
abbrev pub IsThere : (functions objects : ℕ) → Target → Type 0
IsThere functions objects (Code (Defined k)) = k < functions
IsThere functions objects (Code SystemWrite) = Unit {0}
IsThere functions objects (Code SystemExit) = Unit {0}
IsThere functions objects (Object k) = k < objects

-- all that names of these texts mean is there
pub record HasWhatNamesMean (texts : List Checked) (p : Program) : Type 0 where
  -- each text has a list of targets, with one for each of its symbols
  pub lists : length p.targets ≡ length texts
  pub lengths : (t : ℕ) (c : Checked) (targets : List Target) → slice_get texts t ≡ Some c →
      slice_get p.targets t ≡ Some targets → length targets ≡ length c.text.symbols
  -- what symbol s of text t means
  pub targets : (t s : ℕ) (targets : List Target) (target : Target) →
      slice_get p.targets t ≡ Some targets → slice_get targets s ≡ Some target →
      IsThere (length p.functions) (length p.objects) target
  -- `main` is a function of one of the two forms
  pub main : (f : InText Func) × (slice_get p.functions p.main ≡ Some f) × (is_main f.item ≡ true)

-- a program begins with a function that is exported as `main`, in one of the two forms
abbrev pub ProgramsExportMain : Type 0
ProgramsExportMain =
    (texts : List Checked) (p : Program) → IsProgram texts p →
    (f : InText Func) × (slice_get p.functions p.main ≡ Some f) × IsMain texts f

abbrev pub ProgramsHaveWhatNamesMean : Type 0
ProgramsHaveWhatNamesMean =
    (texts : List Checked) (p : Program) → IsProgram texts p → HasWhatNamesMean texts p

-- a program whose functions have words enough for their weight and no more, as `AreCodes` says,
-- fits below the stack
abbrev pub ProgramsFit : Type 0
ProgramsFit =
    (texts : List Checked) (p : Program) (codes : List Words) → IsProgram texts p →
    AreCodes codes p.functions → FitsBelow p codes

-- ---- the bytes of data, item by item
abbrev pub address_bytes : Addresses → Option Target → (offset : ℕ) → List ℕ
address_bytes a None offset = replicate 8 0
address_bytes a (Some (Code f)) offset =
    if nat_eq offset 0 then to_le_bytes w64 (callee_address a f) else replicate 8 0
address_bytes a (Some (Object k)) offset =
    to_le_bytes w64 ((slice_index a.objects k + offset) % 2 ^ 64)

abbrev pub item_bytes : Addresses → List (List Target) → (text : ℕ) → Size → Item → List ℕ
item_bytes a targets t size (Int n) = bytes_of (byte_count size) n
item_bytes a targets t size (Bytes bytes) = bytes
item_bytes a targets t size (Address g offset) = address_bytes a (meaning targets t g) offset

abbrev pub field_bytes : Addresses → List (List Target) → (text : ℕ) → Field → List ℕ
field_bytes a targets t (Items size items) = flat_map (item_bytes a targets t size) items
field_bytes a targets t (Zeros n) = replicate n 0

-- the bytes of a datum, with the zeros after them
abbrev pub slot_bytes : Addresses → List (List Target) → InText DataDef → List ℕ
slot_bytes a targets d = in_slots (flat_map (field_bytes a targets d.text) d.item.fields)
