-- What some words ask for.
use Rattle.std.specs.Prelude.{◌≡◌, ℕ, List, [], ◌∷◌, Option, Some, codes, option_map}
use Rattle.clap.specs.Faults.{fault_of}
use Rattle.clap.specs.Kinds.{Kinds}
use Rattle.clap.specs.Simple.{subcommand_of}
use Rattle.clap.specs.Walk.{Row, all_of, first_of, one_of}
use Rattle.clap.specs.declared.error.kind.ErrorKind.TheVariants as kind
use Rattle.command_line.specs.Grammar.{qbec_app}

-- the faults of words
abbrev pub faults : List (List ℕ) → Kinds
faults words = fault_of qbec_app words

-- what is read of the subcommand that they name
abbrev pub read : {X : Type 0} → (List ℕ → List Row → X) → List (List ℕ) → Option X
read f words = option_map (λ p. f p.0 p.1) (subcommand_of qbec_app words)

abbrev pub build_words : List (List ℕ)
build_words = codes "build" ∷ codes "x" ∷ codes "-o" ∷ codes "a" ∷ codes "y" ∷ []

abbrev pub explain_words : List (List ℕ)
explain_words = codes "build" ∷ codes "x" ∷ codes "--explain" ∷ codes "-o" ∷ codes "a" ∷ []

abbrev pub run_words : List (List ℕ)
run_words = codes "run" ∷ codes "--limit=5" ∷ codes "e" ∷ codes "w" ∷ codes "--" ∷ codes "-n" ∷ []

abbrev pub plain_words : List (List ℕ)
plain_words = codes "interp" ∷ codes "t" ∷ []

pub record Examples : Type 0 where
  pub build_is_clean : faults build_words ≡ []
  pub build : read (λ name rows. name) build_words ≡ Some (codes "build")
  pub build_out : read (λ name rows. first_of (codes "OUT") rows) build_words
      ≡ Some (Some (codes "a"))
  pub build_files : read (λ name rows. all_of (codes "FILES") rows) build_words
      ≡ Some (Some (codes "x" ∷ codes "y" ∷ []))
  pub build_explain : read (λ name rows. one_of (codes "explain") rows) build_words
      ≡ Some (Some (codes "false"))
  pub explain_is_clean : faults explain_words ≡ []
  pub explain : read (λ name rows. one_of (codes "explain") rows) explain_words
      ≡ Some (Some (codes "true"))
  pub run_is_clean : faults run_words ≡ []
  pub run_limit : read (λ name rows. one_of (codes "limit") rows) run_words ≡ Some (Some (codes "5"))
  pub run_words_are : read (λ name rows. all_of (codes "WORDS") rows) run_words
      ≡ Some (Some (codes "w" ∷ codes "-n" ∷ []))
  pub plain_is_clean : faults plain_words ≡ []
  pub plain_file : read (λ name rows. first_of (codes "FILE") rows) plain_words
      ≡ Some (Some (codes "t"))
  pub plain_limit : read (λ name rows. one_of (codes "limit") rows) plain_words
      ≡ Some (Some (codes "1000000000"))
  pub no_command : faults [] ≡ kind.MissingSubcommand ∷ []
  pub help : faults (codes "run" ∷ codes "--help" ∷ []) ≡ kind.DisplayHelp ∷ []
  pub no_out : faults (codes "build" ∷ codes "x" ∷ []) ≡ kind.MissingRequiredArgument ∷ []
  pub great_limit : faults (codes "run" ∷ codes "--limit=1000000000001" ∷ codes "e" ∷ [])
      ≡ kind.ValueValidation ∷ []
