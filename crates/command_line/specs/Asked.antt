-- What words ask for: which argument each part of a command is taken from.
use Rattle.std.specs.Prelude.{◌≡◌, ◌≢◌, ℕ, Bool, true, false, ◌^◌, ◌<◌, List, [], map, codes, Option, Some, None, option_map, unwrap_or, ◌+◌, if◌then◌else◌, ◌∷◌, take, drop, bytes_eq}
use Rattle.std.specs.Str.Parse.{IsNumeral, digits_value, without_leading_plus}
use Rattle.clap.specs.Walk.{Row, first_of, one_of, all_of}
use Rattle.command_line.specs.declared.Command.{Command}
use Rattle.command_line.specs.declared.Command.TheVariants.{Build, Run, Interpret, Disassemble, Check, Symbols, Stack, Trace}
use Rattle.std.specs.List.{position_or_len}
use Rattle.clap.specs.Faults.{fault_of}
use Rattle.clap.specs.Kinds.{IsAmong}
use Rattle.clap.specs.Simple.{subcommand_of}
use Rattle.clap.specs.declared.error.kind.ErrorKind.{ErrorKind}
use Rattle.clap.specs.declared.error.kind.ErrorKind.TheVariants.{DisplayHelp, DisplayVersion}
use Rattle.command_line.specs.Grammar.{qbec_app}
use Rattle.command_line.specs.declared.refusal.Refusal.{Refusal}
use Rattle.command_line.specs.declared.refusal.Refusal.TheVariants.{Help, Mistake, Memory}

-- the first word of an argument, and all of them
abbrev pub word_in : List Row → List ℕ → List ℕ
word_in rows name = unwrap_or (first_of name rows) []

abbrev pub words_in : List Row → List ℕ → List (List ℕ)
words_in rows name = unwrap_or (all_of name rows) []

-- the decimal number of the argument of this name, or the default where it has no value
pub record IsNumber (name : List ℕ) (default : ℕ) (rows : List Row) (number : ℕ) : Type 0 where
  pub given : (t : List ℕ)
      → one_of name rows ≡ Some t
      → IsNumeral 10 (without_leading_plus t)
      → digits_value 10 (without_leading_plus t) < 2 ^ 64
      → number ≡ digits_value 10 (without_leading_plus t)
  pub missing : one_of name rows ≡ None → number ≡ default

abbrev pub IsLimit : List Row → ℕ → Type 0
IsLimit rows limit = IsNumber (codes "limit") 1000000000 rows limit

abbrev pub IsLast : List Row → ℕ → Type 0
IsLast rows last = IsNumber (codes "last") 0 rows last

-- whether the flag `--explain` stands there
pub record IsExplain (rows : List Row) (flag : Bool) : Type 0 where
  pub given : one_of (codes "explain") rows ≡ Some (codes "true") → flag ≡ true
  pub unset : one_of (codes "explain") rows ≡ Some (codes "false") → flag ≡ false
  pub missing : one_of (codes "explain") rows ≡ None → flag ≡ false

-- the subcommand of this name, with these values of its arguments, asks for the command
abbrev pub Asks : (name : List ℕ) → List Row → Command → Type 0
Asks name rows (Build explain out files) =
    (name ≡ codes "build") × IsExplain rows explain × (out.now ≡ word_in rows (codes "OUT"))
    × (map (λ s. s.now) files.items ≡ words_in rows (codes "FILES"))
Asks name rows (Run explain limit file words) =
    (name ≡ codes "run") × IsExplain rows explain × IsLimit rows limit × (file.now ≡ word_in rows (codes "EXE"))
    × (map (λ s. s.now) words.items ≡ words_in rows (codes "WORDS"))
Asks name rows (Interpret explain limit file words) =
    (name ≡ codes "interp") × IsExplain rows explain × IsLimit rows limit × (file.now ≡ word_in rows (codes "FILE"))
    × (map (λ s. s.now) words.items ≡ words_in rows (codes "WORDS"))
Asks name rows (Disassemble explain file) =
    (name ≡ codes "dis") × IsExplain rows explain × (file.now ≡ word_in rows (codes "EXE"))
Asks name rows (Check files) =
    (name ≡ codes "check") × (map (λ s. s.now) files.items ≡ words_in rows (codes "FILES"))
Asks name rows (Symbols out files) =
    (name ≡ codes "symbols") × (option_map (λ s. s.now) out ≡ first_of (codes "OUT") rows)
    × (map (λ s. s.now) files.items ≡ words_in rows (codes "FILES"))
Asks name rows (Stack files) =
    (name ≡ codes "stack") × (map (λ s. s.now) files.items ≡ words_in rows (codes "FILES"))
Asks name rows (Trace limit last files words) =
    (name ≡ codes "trace") × IsLimit rows limit × IsLast rows last
    × (map (λ s. s.now) files.items ≡ words_in rows (codes "FILES"))

-- the same where no subcommand may have the name: then there is no command
abbrev pub AsksFor : (name : List ℕ) → List Row → Option Command → Type 0
AsksFor name rows None =
    (name ≢ codes "build") × (name ≢ codes "run") × (name ≢ codes "interp") × (name ≢ codes "dis")
    × (name ≢ codes "check") × (name ≢ codes "symbols") × (name ≢ codes "stack")
    × (name ≢ codes "trace")
AsksFor name rows (Some command) = Asks name rows command

-- the same of the subcommand that words name, where they name one
abbrev pub AsksIn : Option (List ℕ × List Row) → Option Command → Type 0
AsksIn None None = Unit {0}
AsksIn None (Some command) = ⊥
AsksIn (Some found) command = AsksFor found.0 found.1 command

-- the words that a trace hands on are these; other commands have theirs by the grammar
abbrev pub HandsOn : (words : List (List ℕ)) → Command → Type 0
HandsOn words (Trace limit last files handed) = map (λ s. s.now) handed.items ≡ words
HandsOn words command = Unit {0}

abbrev pub MayHandOn : (words : List (List ℕ)) → Option Command → Type 0
MayHandOn words None = Unit {0}
MayHandOn words (Some command) = HandsOn words command

-- ---- which words ask for what, by the grammar: `subcommand_of` and `fault_of` are `clap`'s
-- ---- a trace takes several files, so the words of its program are those behind the first `--`, and
-- the grammar reads those before it

abbrev pub is_dashes : List ℕ → Bool
is_dashes word = bytes_eq word (codes "--")

-- how many words stand before it, or how many there are
abbrev pub dashes_at : List (List ℕ) → ℕ
dashes_at words = position_or_len is_dashes words

abbrev pub is_trace : List (List ℕ) → Bool
is_trace [] = false
is_trace (word ∷ words) = bytes_eq word (codes "trace")

-- the words that the grammar reads
abbrev pub read_words : List (List ℕ) → List (List ℕ)
read_words words = if is_trace words then take (dashes_at words) words else words

-- the words that are handed on as they are
abbrev pub handed_words : List (List ℕ) → List (List ℕ)
handed_words words = if is_trace words then drop (dashes_at words + 1) words else []

-- ---- what they ask for

-- the words have no fault, and name a subcommand that asks for the command with its arguments
pub record AskFor (words : List (List ℕ)) (command : Command) : Type 0 where
  pub clean : fault_of qbec_app (read_words words) ≡ []
  pub name : List ℕ
  pub rows : List Row
  pub named : subcommand_of qbec_app (read_words words) ≡ Some (name, rows)
  pub asks : Asks name rows command
  pub hands : HandsOn (handed_words words) command

abbrev pub is_help : ErrorKind → Bool
is_help DisplayHelp = true
is_help DisplayVersion = true
is_help _ = false

-- the words have a fault of a kind that is help, or that is none
pub record HaveFault (words : List (List ℕ)) (help : Bool) : Type 0 where
  pub kind : ErrorKind
  pub among : IsAmong kind (fault_of qbec_app words)
  pub is : is_help kind ≡ help

-- why words that the grammar reads name no command
abbrev pub SaysOf : (read : List (List ℕ)) → Refusal → Type 0
SaysOf read (Help text) = HaveFault read true
SaysOf read (Mistake text) = HaveFault read false
SaysOf read Memory = Unit {0}

-- why the words ask for no command
abbrev pub SaysWhy : List (List ℕ) → Refusal → Type 0
SaysWhy words refusal = SaysOf (read_words words) refusal
