-- The laws of the meaning: more turns go on from where fewer stopped, and depth beyond the turns
-- changes nothing.
use Rattle.std.specs.Prelude.{◌≡◌, ◌≢◌, ◌⊎◌, ℕ, ◌<◌, ◌≤◌, List, [], ◌++◌}
use Rattle.il_ast.specs.Types.{Program, End, Exit, Halt, Undefined, Stack, Turns}
use Rattle.il_ast.specs.Memory.{Memory}
use Rattle.il_ast.specs.Effect.{Call}
use Rattle.il_ast.specs.Run.{Spent, Ended}
use Rattle.il_ast.specs.Meaning.{outcome, meaning, callees}

-- an end other than Turns, and the output with it, is the same at every greater number of turns
abbrev pub EndsStay : Type 0
EndsStay = (p : Program) (words : List (List ℕ)) (n k : ℕ) → n ≤ k →
    (meaning p words n).ending ≢ Turns → meaning p words k ≡ meaning p words n

-- the output at fewer turns is a beginning of that at more
abbrev pub OutputGrows : Type 0
OutputGrows =
    (p : Program) (words : List (List ℕ)) (n k : ℕ)
    → n ≤ k
    → (more : List ℕ) × ((meaning p words k).output ≡ (meaning p words n).output ++ more)

-- a call is the same at every depth above its turns
abbrev pub DepthIsEnough : Type 0
DepthIsEnough =
    (p : Program) (j k : ℕ) (call : Call) (turns room : ℕ) (m : Memory)
    → turns < j
    → turns < k
    → callees p j call turns room m ≡ callees p k call turns room m

-- a run that is out of turns has done them all
abbrev pub TurnsAreSpent : Type 0
TurnsAreSpent =
    (p : Program) (words : List (List ℕ)) (n : ℕ) (s : Spent) → outcome p words n ≡ Ended s Turns →
    s.turns ≡ n

-- at some number of turns, at most n, the program still goes on, and has put out so much
pub record StillGoes (p : Program) (words : List (List ℕ)) (n : ℕ) (output : List ℕ) : Type 0 where
  pub turns : ℕ
  pub spent : Spent
  pub fewer : turns ≤ n
  pub going : outcome p words turns ≡ Ended spent Turns
  pub output_is : spent.output ≡ output

abbrev pub IsFailure : End → Type 0
IsFailure (Exit n) = ⊥
IsFailure Halt = ⊥
IsFailure Undefined = Unit {0}
IsFailure Stack = Unit {0}
IsFailure Turns = ⊥

-- what a run puts out before it becomes undefined or runs out of stack, it puts out while it goes
-- on
abbrev pub OutputComesFirst : Type 0
OutputComesFirst =
    (p : Program) (words : List (List ℕ)) (n : ℕ) (s : Spent) (e : End)
    → outcome p words n ≡ Ended s e
    → IsFailure e
    → (s.output ≡ []) ⊎ StillGoes p words n s.output
