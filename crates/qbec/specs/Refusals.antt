-- What a refusal says of texts.
use Rattle.std.specs.Prelude.{ℕ, List, [], ◌∷◌, ◌≡◌, ◌⊎◌, ◌<◌, ◌≤◌, ◌+◌, false, Some, slice_get, length}
use Rattle.il_ast.specs.declared.program.Program.{Program}
use Rattle.il_reader.specs.Prelude.{Reads}
use Rattle.il_types.specs.declared.checked.Checked.{Checked}
use Rattle.obj_link.specs.Prelude.{IsProgram, times_exported, meaning_of, names_of, functions_of, objects_of, IsUnknown, ExportsMain, within_limits, Contents, IsImageOf}
use Rattle.il_ast.specs.declared.text.Text.{Text}
use Rattle.il_lex.specs.Next.{lines_in}
use Rattle.il_types.specs.declared.rule.BrokenRule.{BrokenRule}
use Rattle.il_types.specs.Prelude.{broken, within_limits as is_within}
use Rattle.qbec.specs.declared.error.CompileError.{CompileError}
use Rattle.qbec.specs.declared.error.CompileError.TheVariants.{Syntax, Rule, UnknownName, ExportedTwice, NoMain, Limit, Memory}
use Rattle.il_reader.specs.declared.error.ReadError.{ReadError}
use Rattle.il_reader.specs.declared.error.ReadError.TheVariants.{Syntax as NotRead, Memory as ReadMemory}
use Rattle.il_types.specs.declared.error.CheckError.{CheckError}
use Rattle.il_types.specs.declared.error.CheckError.TheVariants.{Rule as Broken, Limit as Passed, Memory as CheckMemory}
use Rattle.obj_link.specs.declared.linking.error.LinkError.{LinkError}
use Rattle.obj_link.specs.declared.linking.error.LinkError.TheVariants.{UnknownName as LinkUnknown, ExportedTwice as LinkTwice, NoMain as LinkNoMain, Limit as LinkLimit, Memory as LinkMemory}
use Rattle.il_ast.specs.declared.limits.TheConstants.{WORDS, WORD_BYTES}
use Rattle.rv_isa.specs.Prelude.{State, word_bytes}
use Rattle.elf_file.specs.Conditions.{Loads, Executable, Stands}
use Rattle.rv_machine.specs.Starts.{Starts}
use Rattle.headline.specs.Headline.{Executes}

-- ---- texts, read and checked, and the program that they are

-- each text is in the grammar, and its tree keeps the rules and the limits of one text
abbrev pub AreTexts : List (List ℕ) → List Checked → Type 0
AreTexts [] [] = Unit {0}
AreTexts [] (c ∷ checked) = ⊥
AreTexts (bytes ∷ texts) [] = ⊥
AreTexts (bytes ∷ texts) (c ∷ checked) = Reads bytes c.text × AreTexts texts checked

-- texts that are this program: each is in the grammar and keeps the rules, and together they link
-- to it
pub record AreProgram (texts : List (List ℕ)) (p : Program) : Type 0 where
  pub checked : List Checked
  pub are : AreTexts texts checked
  pub is : IsProgram checked p

-- ---- one text

-- the text is not in the grammar; a line is named, which is one of its lines or the next
abbrev pub IsNoText : (line : ℕ) → List ℕ → Type 0
IsNoText line bytes = (1 ≤ line) × (line ≤ lines_in bytes + 1) × ((t : Text) → Reads bytes t → ⊥)

-- it breaks the rule, at the line
abbrev pub Breaks : BrokenRule → List ℕ → Type 0
Breaks fault bytes = (t : Text) × Reads bytes t × (broken fault.rule t ≡ Some fault.line)

-- it passes a limit of one text
abbrev pub PassesLimit : List ℕ → Type 0
PassesLimit bytes = (t : Text) × Reads bytes t × (is_within t ≡ false)

-- ---- all texts

-- one of the texts is so, which are numbered from 1
abbrev pub OfText : (texts : List (List ℕ)) (number : ℕ) (P : List ℕ → Type 0) → Type 0
OfText texts number P =
    (k : ℕ) × (bytes : List ℕ) × (number ≡ k + 1) × (slice_get texts k ≡ Some bytes) × P bytes

-- each of the texts is in the grammar and keeps its rules and limits, and together they are so
abbrev pub OfAll : (texts : List (List ℕ)) (P : List Checked → Type 0) → Type 0
OfAll texts P = (checked : List Checked) × AreTexts texts checked × P checked

-- what a refusal says of texts: nothing where memory was refused
abbrev pub Refuses : CompileError → List (List ℕ) → Type 0
Refuses (Syntax text line) texts = OfText texts text (IsNoText line)
Refuses (Rule text fault) texts = OfText texts text (Breaks fault)
Refuses (UnknownName name) texts =
    OfAll texts (λ checked. IsUnknown (meaning_of checked) checked name.items)
Refuses (ExportedTwice name) texts =
    OfAll texts (λ checked. 1 < times_exported checked (names_of checked) name.items)
Refuses NoMain texts = OfAll texts (λ checked. ExportsMain checked → ⊥)
Refuses Limit texts =
    ((number : ℕ) × OfText texts number PassesLimit)
    ⊎ OfAll texts (λ checked. within_limits checked (functions_of checked) (objects_of checked)
    ≡ false)
Refuses Memory texts = Unit {0}

-- ---- which refusal of texts comes of what reading, checking and linking refuse

-- the text with this number is refused so
abbrev pub RefusesText : CompileError → (number : ℕ) → List ℕ → Type 0
RefusesText (Syntax text line) number bytes = (text ≡ number) × IsNoText line bytes
RefusesText (Rule text fault) number bytes = (text ≡ number) × Breaks fault bytes
RefusesText Limit number bytes = PassesLimit bytes
RefusesText Memory number bytes = Unit {0}
RefusesText e number bytes = ⊥

-- why reading and checking refuse the text with this number
abbrev pub read_refusal : (number : ℕ) → ReadError → CompileError
read_refusal number (NotRead line) = Syntax number line
read_refusal number ReadMemory = Memory

abbrev pub check_refusal : (number : ℕ) → CheckError → CompileError
check_refusal number (Broken fault) = Rule number fault
check_refusal number Passed = Limit
check_refusal number CheckMemory = Memory

-- the refusal says what linking says, with a copy of the name where it has one, or that memory for
-- that was refused
abbrev pub SaysAsMuch : LinkError → CompileError → Type 0
SaysAsMuch (LinkUnknown name) (UnknownName copy) = copy.items ≡ name.now
SaysAsMuch (LinkTwice name) (ExportedTwice copy) = copy.items ≡ name.now
SaysAsMuch (LinkUnknown name) Memory = Unit {0}
SaysAsMuch (LinkTwice name) Memory = Unit {0}
SaysAsMuch LinkNoMain NoMain = Unit {0}
SaysAsMuch LinkLimit Limit = Unit {0}
SaysAsMuch LinkMemory Memory = Unit {0}
SaysAsMuch e r = ⊥

-- ---- what compiling texts answers

-- The executable is one of the program: an image of the program stands in its memory, whose code
-- can be executed and neither read nor written, and whose data can be read and written, and nothing
-- else stands there; and from every start of the machine with argument words within their limits,
-- the machine executes the program.
pub record IsExecutableOf (p : Program) (x : Executable) : Type 0 where
  pub image : Contents
  pub is : IsImageOf p image
  pub stands : Stands image x
  pub runs : (words : List (List ℕ)) (s : State) → Starts x words s → length words ≤ WORDS →
      length (word_bytes words) ≤ WORD_BYTES → Executes p words s

-- the bytes are an executable file, and whatever they load as is an executable of the program
pub record IsFile (p : Program) (bytes : List ℕ) : Type 0 where
  pub file : Executable
  pub loads : Loads bytes file
  pub every : (x : Executable) → Loads bytes x → IsExecutableOf p x

pub record IsCompiled (texts : List (List ℕ)) (bytes : List ℕ) : Type 0 where
  pub program : Program
  pub are : AreProgram texts program
  pub is : IsFile program bytes
