-- What is found of texts, and the lines that show it.
use Rattle.std.specs.Prelude.{◌≡◌, ◌≢◌, ◌⊎◌, ℕ, ◌+◌, ◌++◌, false, List, [], ◌∷◌, codes, map, slice_get, unwrap_or, Some, decimal, string_bytes}
use Rattle.il_ast.specs.declared.program.Program.{Program}
use Rattle.il_types.specs.declared.checked.Checked.{Checked}
use Rattle.il_types.specs.Prelude.{rule_number}
use Rattle.obj_link.specs.Prelude.{within_limits, functions_of, objects_of}
use Rattle.diagnostics.specs.declared.note.Note.{Note}
use Rattle.qbec.specs.declared.error.CompileError.{CompileError}
use Rattle.qbec.specs.declared.error.CompileError.TheVariants.{Syntax, Rule, UnknownName, ExportedTwice, NoMain, Limit, Memory}
use Rattle.qbec.specs.Refusals.{AreProgram, AreTexts, OfAll, OfText, PassesLimit, Refuses}
use Rattle.commands.specs.declared.verdict.Finding.{Finding}
use Rattle.commands.specs.declared.verdict.Verdict.{Verdict}
use Rattle.commands.specs.declared.verdict.Verdict.TheVariants.{Sound, Refused}

-- ---- what is true of texts

-- the note stands at the line that the refusal names, if it names one
abbrev pub StandsAt : CompileError → Note → Type 0
StandsAt (Syntax text line) note = line ≡ note.line
StandsAt (Rule text fault) note = fault.line ≡ note.line
StandsAt e note = Unit {0}

-- together they pass a limit over all texts
abbrev pub PassTogether : List Checked → Type 0
PassTogether checked = within_limits checked (functions_of checked) (objects_of checked) ≡ false

-- the refusal of the text with this number, which is not for want of memory, with a note that
-- stands in the text and at the line that the refusal names
pub record IsFinding (number : ℕ) (refusal : CompileError) (f : Finding) : Type 0 where
  pub is : f.refusal ≡ refusal
  pub known : refusal ≢ Memory
  pub text : f.note.text ≡ number
  pub line : StandsAt refusal f.note

-- the note stands in the text that is refused so, where one is by itself; notes number texts from 0
abbrev pub StandsIn : (texts : List (List ℕ)) → CompileError → Note → Type 0
StandsIn texts (Syntax text line) note = text ≡ note.text + 1
StandsIn texts (Rule text fault) note = text ≡ note.text + 1
StandsIn texts Limit note =
    OfText texts (note.text + 1) PassesLimit ⊎ OfAll texts PassTogether
StandsIn texts e note = Unit {0}

-- the texts are refused so, and not for want of memory; and the note stands there
pub record IsTrue (texts : List (List ℕ)) (f : Finding) : Type 0 where
  pub says : Refuses f.refusal texts
  pub known : f.refusal ≢ Memory
  pub text : StandsIn texts f.refusal f.note
  pub line : StandsAt f.refusal f.note

abbrev pub AreTrue : (texts : List (List ℕ)) → List Finding → Type 0
AreTrue texts [] = Unit {0}
AreTrue texts (f ∷ findings) = IsTrue texts f × AreTrue texts findings

-- a note stands in the text with this number
abbrev pub IsToldOf : (number : ℕ) → List Finding → Type 0
IsToldOf number [] = ⊥
IsToldOf number (f ∷ findings) = (f.note.text ≡ number) ⊎ IsToldOf number findings

-- the text is in the grammar, and keeps the rules and the limits of one text
abbrev pub IsText : List ℕ → Type 0
IsText bytes = (c : Checked) × AreTexts (bytes ∷ []) (c ∷ [])

-- each text by itself is one, or a note stands in it
abbrev pub AreAllTold : (texts : List (List ℕ)) → List Finding → Type 0
AreAllTold texts findings =
    (number : ℕ) (bytes : List ℕ) → slice_get texts number ≡ Some bytes →
    IsText bytes ⊎ IsToldOf number findings

-- the texts are a program; or they are refused, for these reasons, and each that is refused by
-- itself is told of
abbrev pub IsVerdict : (texts : List (List ℕ)) → Verdict → Type 0
IsVerdict texts (Sound warnings) = (p : Program) × AreProgram texts p
IsVerdict texts (Refused findings) =
    (findings.items ≢ []) × AreTrue texts findings.items × AreAllTold texts findings.items

-- the status that tells it
abbrev pub verdict_status : Verdict → ℕ
verdict_status (Sound warnings) = 0
verdict_status (Refused findings) = 126

-- of texts that are a program no verdict is that they are refused
abbrev pub ProgramsAreSound : Type 0
ProgramsAreSound =
    (texts : List (List ℕ)) (p : Program) (v : Verdict) → AreProgram texts p →
    IsVerdict texts v → verdict_status v ≡ 0

-- ---- lines, each with its line end

-- the code of a refusal
abbrev pub code_of : CompileError → List ℕ
code_of (Syntax text line) = codes "E1"
code_of (Rule text fault) = codes "E2 C" ++ decimal (rule_number fault.rule)
code_of (UnknownName name) = codes "E3"
code_of (ExportedTwice name) = codes "E4"
code_of NoMain = codes "E5"
code_of Limit = codes "E6"
code_of Memory = codes "E7"

-- the path of a text
abbrev pub path_of : (paths : List (List ℕ)) (text : ℕ) → List ℕ
path_of paths text = unwrap_or (slice_get paths text) (codes "?")

-- the line of a reason, among lines of what else is wrong with the text
unfoldable pub error_line : (paths : List (List ℕ)) → Finding → List ℕ
error_line paths f =
    string_bytes f.others.before ++ path_of paths f.note.text ++ codes ":" ++ decimal f.note.line
    ++ codes ": error: " ++ string_bytes f.note.words ++ codes " [" ++ code_of f.refusal
    ++ codes "]\n" ++ string_bytes f.others.behind

unfoldable pub warning_line : (paths : List (List ℕ)) → Note → List ℕ
warning_line paths note =
    path_of paths note.text ++ codes ":" ++ decimal note.line ++ codes ": warning: "
    ++ string_bytes note.words ++ codes "\n"

-- a line for each reason, or for each warning
abbrev pub verdict_lines : (paths : List (List ℕ)) → Verdict → List (List ℕ)
verdict_lines paths (Sound warnings) = map (warning_line paths) warnings.items
verdict_lines paths (Refused findings) = map (error_line paths) findings.items
