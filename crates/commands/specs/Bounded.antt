-- Executables of programs that stay in the stack.
use Rattle.std.specs.Prelude.{◌≡◌, ◌≢◌, ◌⊎◌, ℕ, List}
use Rattle.il_ast.specs.declared.program.Program.{Program}
use Rattle.il_ast.specs.declared.value.End.TheVariants.{Exit, Undefined}
use Rattle.il_ast.specs.Prelude.{meaning}
use Rattle.rv_isa.specs.Prelude.{State, Exited, Broken}
use Rattle.headline.specs.Headline.{Executes, StopsSo, GoesOnSo}
use Rattle.stack_bound.specs.Bounds.{StaysInStack}

-- at so many turns the machine exits, halts or goes on as the program does
abbrev pub DoesAsMuch : Program → (words : List (List ℕ)) → (turns : ℕ) → State → Type 0
DoesAsMuch p words n s =
    ((status : ℕ) × ((meaning p words n).ending ≡ Exit status) × StopsSo p words n s (Exited status))
    ⊎ StopsSo p words n s Broken ⊎ GoesOnSo p words n s

-- where the program stays in the stack, the machine that executes it does as much at each number
-- of turns, unless the program does what has no meaning
abbrev pub StayingIsExecuted : Type 0
StayingIsExecuted =
    (p : Program) (words : List (List ℕ)) (s : State) → StaysInStack p → Executes p words s →
    (n : ℕ) → (meaning p words n).ending ≢ Undefined → DoesAsMuch p words n s
