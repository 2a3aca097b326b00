-- Why words are refused, by the kind of the parser's error.
use Rattle.std.proofs.Common.{◌≡◌, ◌⊎◌, ℕ, List, [], true, false, inl, inr, refl, subst, sym}
use Rattle.clap.specs.Faults.{fault_of, is_simple_and_free}
use Rattle.clap.specs.Kinds.{HasKind, IsAmong}
use Rattle.clap.specs.Simple.{App, HasMatchesOf, is_simple, subcommand_of, subcommand_rows_of}
use Rattle.clap.specs.Values.{kind_of}
use Rattle.clap.specs.declared.error.Error.{Error}
use Rattle.clap.specs.declared.parser.matches.ArgMatches.{ArgMatches}
use Rattle.clap.specs.declared.error.kind.ErrorKind.{ErrorKind}
use Rattle.clap.specs.declared.error.kind.ErrorKind.TheVariants as kind
use Rattle.clap.proofs.OnLiterals.{clap_on_literals}
use Rattle.command_line.specs.Grammar.{qbec_app}
use Rattle.command_line.specs.Refused.{refusal_by, refusal_of}
use Rattle.command_line.specs.Asked.{HaveFault, SaysOf, is_help}
use Rattle.command_line.specs.declared.refusal.Refusal.{Refusal}

is_free : is_simple_and_free qbec_app ≡ true
unfolding clap_on_literals
is_free = refl

-- what is found of a command that is read as the program is
simple : is_simple qbec_app ≡ true
unfolding clap_on_literals
simple = refl

pub found : (a : App) (words : List (List ℕ)) (m : ArgMatches) → a ≡ qbec_app → HasMatchesOf a words m → subcommand_rows_of m ≡ subcommand_of qbec_app words
found a words m is h = (subst (λ x. HasMatchesOf x words m) is h simple).1

-- what the parser says of a command that is read as the program is
pub clean : (a : App) (words : List (List ℕ)) → a ≡ qbec_app → (is_simple_and_free a ≡ true → fault_of a words ≡ []) → fault_of qbec_app words ≡ []
clean a words is h = subst (λ x. is_simple_and_free x ≡ true → fault_of x words ≡ []) is h is_free

pub faulty : (a : App) (words : List (List ℕ)) (e : Error) → a ≡ qbec_app → (is_simple_and_free a ≡ true → HasKind (fault_of a words) e) → HasKind (fault_of qbec_app words) e
faulty a words e is h = subst (λ x. is_simple_and_free x ≡ true → HasKind (fault_of x words) e) is h is_free

mistaken : (words : List (List ℕ)) (k : ErrorKind) → is_help k ≡ false → (k ≡ kind.OutOfMemory → ⊥) → (k ≡ kind.OutOfMemory) ⊎ IsAmong k (fault_of qbec_app words) → HaveFault words false
mistaken words k is room h = elim h [
  | inl e ↦ absurd (room e)
  | inr among ↦ record { kind = k; among = among; is = is }
]

helped : (words : List (List ℕ)) (k : ErrorKind) → is_help k ≡ true → (k ≡ kind.OutOfMemory → ⊥) → (k ≡ kind.OutOfMemory) ⊎ IsAmong k (fault_of qbec_app words) → HaveFault words true
helped words k is room h = elim h [
  | inl e ↦ absurd (room e)
  | inr among ↦ record { kind = k; among = among; is = is }
]

by_kind : (words : List (List ℕ)) (e : Error) (k : ErrorKind) → (k ≡ kind.OutOfMemory) ⊎ IsAmong k (fault_of qbec_app words) → SaysOf words (refusal_by k e)
by_kind words e kind.InvalidValue h = mistaken words kind.InvalidValue refl (λ x. cc) h
by_kind words e kind.UnknownArgument h = mistaken words kind.UnknownArgument refl (λ x. cc) h
by_kind words e kind.InvalidSubcommand h = mistaken words kind.InvalidSubcommand refl (λ x. cc) h
by_kind words e kind.NoEquals h = mistaken words kind.NoEquals refl (λ x. cc) h
by_kind words e kind.ValueValidation h = mistaken words kind.ValueValidation refl (λ x. cc) h
by_kind words e kind.TooManyValues h = mistaken words kind.TooManyValues refl (λ x. cc) h
by_kind words e kind.TooFewValues h = mistaken words kind.TooFewValues refl (λ x. cc) h
by_kind words e kind.WrongNumberOfValues h = mistaken words kind.WrongNumberOfValues refl (λ x. cc) h
by_kind words e kind.ArgumentConflict h = mistaken words kind.ArgumentConflict refl (λ x. cc) h
by_kind words e kind.MissingRequiredArgument h = mistaken words kind.MissingRequiredArgument refl (λ x. cc) h
by_kind words e kind.MissingSubcommand h = mistaken words kind.MissingSubcommand refl (λ x. cc) h
by_kind words e kind.DisplayHelp h = helped words kind.DisplayHelp refl (λ x. cc) h
by_kind words e kind.DisplayHelpOnMissingArgumentOrSubcommand h = mistaken words kind.DisplayHelpOnMissingArgumentOrSubcommand refl (λ x. cc) h
by_kind words e kind.DisplayVersion h = helped words kind.DisplayVersion refl (λ x. cc) h
by_kind words e kind.Io h = mistaken words kind.Io refl (λ x. cc) h
by_kind words e kind.Format h = mistaken words kind.Format refl (λ x. cc) h
by_kind words e kind.OutOfMemory h = tt

pub says : (words : List (List ℕ)) (e : Error) (r : Refusal) → HasKind (fault_of qbec_app words) e → r ≡ refusal_of e → SaysOf words r
says words e r h is = subst (λ x. SaysOf words x) (sym is) (by_kind words e (kind_of e) h)
