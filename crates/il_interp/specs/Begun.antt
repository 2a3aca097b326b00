-- The first state of a run.
use Rattle.std.specs.Prelude.{◌≡◌, ℕ, false, List, [], Result, Ok, Err}
use Rattle.il_ast.specs.declared.value.End.{End}
use Rattle.il_interp.specs.declared.state.State.{State}
use Rattle.il_interp.specs.declared.error.RunError.{RunError}
use Rattle.il_interp.specs.declared.error.RunError.TheVariants.{Words, Memory}
use Rattle.il_interp.specs.Machine.{Next, On, Over}
use Rattle.obj_link.specs.Prelude.{are_arguments}

-- a run begins in this state, or is over at once
abbrev pub begun_next : Result State End → Next
begun_next (Ok st) = On st
begun_next (Err e) = Over [] e

-- what a refusal says of the argument words: nothing where memory was refused
abbrev pub Refuses : RunError → List (List ℕ) → Type 0
Refuses Words words = are_arguments words ≡ false
Refuses Memory words = Unit {0}
