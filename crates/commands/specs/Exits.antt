-- How an invocation ends.
use Rattle.std.specs.Prelude.{◌≡◌, ◌⊎◌, ℕ, List}
use Rattle.std.specs.declared.io.ErrorKind.{ErrorKind}
use Rattle.std.specs.declared.io.ErrorKind.TheVariants.{OutOfMemory}
use Rattle.commands.specs.declared.failure.Failure.{Failure}
use Rattle.commands.specs.declared.failure.Failure.TheVariants.{Memory, Refused}
use Rattle.commands.specs.declared.refusal.Refusal.TheVariants.{Words}
use Rattle.commands.specs.Commands.{World, Ends, Reported}

-- why the words can't be had: memory was refused, or one of them is no text
abbrev pub words_failure : ErrorKind → Failure
words_failure OutOfMemory = Memory
words_failure kind = Refused Words

-- no command was begun: nothing happened but that this failure was reported
pub record IsUnbegun (f : Failure) (old new : World) (status : ℕ) : Type 0 where
  pub disk : new.disk ≡ old.disk
  pub out : new.out ≡ old.out
  pub reported : Reported f old.err new.err status

-- what these words ask for ended so, or there was no memory for the list of them
unfoldable pub Exits : (words : List (List ℕ)) (old new : World) → (status : ℕ) → Type 0
Exits words old new status = Ends words old new status ⊎ IsUnbegun Memory old new status
