-- Where the names of a program stand in an executable of it.
use Rattle.std.specs.Prelude.{ℕ, ◌*◌, ◌++◌, Bool, List, [], ◌∷◌, length, ◌≡◌, true, false, codes, map}
use Rattle.il_ast.specs.declared.datum.DataDef.{DataDef}
use Rattle.il_ast.specs.declared.function.Func.{Func}
use Rattle.il_ast.specs.declared.program.InText.{InText}
use Rattle.il_ast.specs.declared.program.Program.{Program}
use Rattle.il_types.specs.declared.checked.Checked.{Checked}
use Rattle.obj_link.specs.Prelude.{object_size, symbol_name, addresses_of, contents_of, IsProgram}
use Rattle.rv_isa.specs.Prelude.{Words}
use Rattle.qbec.specs.declared.symbols.symbol.Kind.{Kind}
use Rattle.qbec.specs.declared.symbols.symbol.Kind.TheVariants.{Function, Object}
use Rattle.qbec.specs.declared.symbols.symbol.Symbol.{Symbol}
use Rattle.std.specs.List.{concat}
use Rattle.elf_file.specs.Conditions.{Loads}
use Rattle.elf_file.specs.File.{executable_of}
use Rattle.shell.specs.Digits.{sixteen_digits}
use Rattle.qbec.specs.Pipeline.{AreWords}
use Rattle.qbec.specs.Refusals.{IsFile, AreTexts}

-- a symbol, with the bytes of its name
pub record Entry : Type 0 where
  pub address : ℕ
  pub size : ℕ
  pub kind : Kind
  pub is_exported : Bool
  pub name : List ℕ

abbrev pub entry : Symbol → Entry
entry s = record {
  address = s.address;
  size = s.size;
  kind = s.kind;
  is_exported = s.is_exported;
  name = s.name.now;
}

-- functions with their words, at these addresses
abbrev pub function_entries : (texts : List Checked) (addresses : List ℕ) → List Words →
    List (InText Func) → List Entry
function_entries texts [] codes fs = []
function_entries texts (a ∷ addresses) [] fs = []
function_entries texts (a ∷ addresses) (c ∷ codes) [] = []
function_entries texts (a ∷ addresses) (c ∷ codes) (f ∷ fs) =
    record {
      address = a;
      size = 4 * length c.words;
      kind = Function;
      is_exported = f.item.exported;
      name = symbol_name texts f.text f.item.name;
    } ∷ function_entries texts addresses codes fs

-- data at these addresses
abbrev pub object_entries : (texts : List Checked) (addresses : List ℕ) →
    List (InText DataDef) → List Entry
object_entries texts [] ds = []
object_entries texts (a ∷ addresses) [] = []
object_entries texts (a ∷ addresses) (d ∷ ds) =
    record {
      address = a;
      size = object_size d.item;
      kind = Object;
      is_exported = d.item.exported;
      name = symbol_name texts d.text d.item.name;
    } ∷ object_entries texts addresses ds

-- all of a program whose functions have these words, at the addresses that its image has
abbrev pub symbols_of : (texts : List Checked) → Program → List Words → List Entry
symbols_of texts p codes =
    function_entries texts (addresses_of p codes).functions codes p.functions
    ++ object_entries texts (addresses_of p codes).objects p.objects

-- ---- the lines that show where the names of texts stand

-- T for a function and D for a datum, in lower case where the name isn't exported
abbrev pub letter : Kind → (is_exported : Bool) → ℕ
letter Function true = 84
letter Function false = 116
letter Object true = 68
letter Object false = 100

-- address, size, letter and name, and a line end
abbrev pub symbol_line : Entry → List ℕ
symbol_line e =
    sixteen_digits e.address ++ codes " " ++ sixteen_digits e.size ++ codes " "
    ++ (letter e.kind e.is_exported ∷ []) ++ codes " " ++ e.name ++ codes "\n"

-- the lines of all names of a program whose functions have these words, in the order of their
-- addresses
abbrev pub listing_of : (texts : List Checked) → Program → List Words → List ℕ
listing_of texts p codes = concat (map symbol_line (symbols_of texts p codes))

-- A file of a program and the lines of its names, both made of the same words for each function:
-- what the file loads as is the image of the program with these words, and the lines say where its
-- functions and its data stand there.
pub record IsFileListed (texts : List Checked) (p : Program) (file listing : List ℕ) : Type 0 where
  pub codes : List Words
  pub words : AreWords codes p
  pub is : IsFile p file
  pub loads : Loads file (executable_of (contents_of p codes))
  pub lists : listing ≡ listing_of texts p codes

-- the texts are a program, of which this is a file, and these are the lines of the names in it
pub record IsListedFile (texts : List (List ℕ)) (file listing : List ℕ) : Type 0 where
  pub checked : List Checked
  pub are : AreTexts texts checked
  pub program : Program
  pub is : IsProgram checked program
  pub lists : IsFileListed checked program file listing
