-- What a run of the machine answers, beside the program that it executes.
use Rattle.std.specs.Prelude.{◌≡◌, ℕ, List, ◌++◌, ◌⊎◌, ◌+◌, ◌*◌, ◌<◌, ◌≤◌, Bool, ◌^◌, [], length}
use Rattle.il_ast.specs.declared.program.Program.{Program}
use Rattle.il_ast.specs.declared.value.End.TheVariants.{Turns, Exit, Halt, Undefined, Stack}
use Rattle.il_ast.specs.Prelude.{meaning}
use Rattle.rv_isa.specs.Prelude.{State, Going, runs}
use Rattle.headline.specs.Headline.{PutsOut, Executes, price_at}
use Rattle.rv_machine.specs.declared.stop.Stop.{Stop}
use Rattle.rv_machine.specs.declared.stop.Stop.TheVariants.{Exit as Exited, Break, Limit, Memory, Fault}
use Rattle.rv_machine.specs.Steps.{RunEnds}
use Rattle.headline.specs.Knot.{Setting, IsSetting, NativesPerform}
use Rattle.headline.specs.Executables.{FunctionsKept, CallsMain}

-- ---- programs that never end, beside a machine that executes them

-- it is out of turns, however many it gets
abbrev pub NeverEnds : Program → (words : List (List ℕ)) → Type 0
NeverEnds p words = (n : ℕ) → (meaning p words n).ending ≡ Turns

pub record IsBeginning (first whole : List ℕ) : Type 0 where
  pub rest : List ℕ
  pub is : whole ≡ first ++ rest

-- the machine never stops; it puts out, in time, all that the program puts out; and at each moment
-- it has put out no more than a beginning of that
pub record RunsOn (p : Program) (words : List (List ℕ)) (s : State) : Type 0 where
  pub never_stops : (m : ℕ) → (t : State) × (runs m s ≡ Going t)
  pub puts_all : (n : ℕ) → PutsOut s (meaning p words n).output
  pub puts_no_more : (m : ℕ) (t : State) → runs m s ≡ Going t →
      (n : ℕ) × IsBeginning t.output (meaning p words n).output

abbrev pub EndlessProgramsRunOn : Type 0
EndlessProgramsRunOn =
    (p : Program) (words : List (List ℕ)) (s : State) → Executes p words s → NeverEnds p words →
    RunsOn p words s

-- the run stopped so, with all of this output; or for want of memory, behind a beginning of it
abbrev pub StopsAs : (wanted : Stop) → (whole output : List ℕ) → Stop → Type 0
StopsAs wanted whole output stop =
    ((stop ≡ wanted) × (output ≡ whole)) ⊎ ((stop ≡ Memory) × IsBeginning output whole)

-- it came to its limit or to want of memory, behind a beginning of this output
pub record IsCut (whole output : List ℕ) (stop : Stop) : Type 0 where
  pub cut : (stop ≡ Limit) ⊎ (stop ≡ Memory)
  pub begins : IsBeginning output whole

-- however many turns it gets, the program neither becomes undefined nor runs out of stack
pub record IsDefined (p : Program) (words : List (List ℕ)) : Type 0 where
  pub defined : (n : ℕ) → (meaning p words n).ending ≡ Undefined → ⊥
  pub stays : (n : ℕ) → (meaning p words n).ending ≡ Stack → ⊥

-- What the answer of a run shows of such a program: that it exits or halts so in some number of
-- turns, with this output; or that this is a beginning of its output. A fault is never answered.
abbrev pub Shows : Program → (words : List (List ℕ)) → (output : List ℕ) → Stop → Type 0
Shows p words output (Exited status) =
    (n : ℕ) × ((meaning p words n).ending ≡ Exit status) × (output ≡ (meaning p words n).output)
Shows p words output Break =
    (n : ℕ) × ((meaning p words n).ending ≡ Halt) × (output ≡ (meaning p words n).output)
Shows p words output Limit = (n : ℕ) × IsBeginning output (meaning p words n).output
Shows p words output Memory = (n : ℕ) × IsBeginning output (meaning p words n).output
Shows p words output (Fault f pc) = ⊥

-- A run of at most `limit` instructions answers this output and this stop. Where the program exits
-- or halts, and the limit is at least its price, the run ends as the program does; while the
-- program goes on for more turns than so many instructions can take, the run doesn't end.
pub record Answers (p : Program) (words : List (List ℕ)) (limit : ℕ) (output : List ℕ)
    (stop : Stop) : Type 0 where
  pub exits : (n status : ℕ) → (meaning p words n).ending ≡ Exit status →
      price_at p words n ≤ limit → StopsAs (Exited status) (meaning p words n).output output stop
  pub halts : (n : ℕ) → (meaning p words n).ending ≡ Halt → price_at p words n ≤ limit →
      StopsAs Break (meaning p words n).output output stop
  pub goes_on : (n : ℕ) → (meaning p words n).ending ≡ Turns → 40000 * (limit + 1) < n →
      IsCut (meaning p words n).output output stop
  pub shows : IsDefined p words → Shows p words output stop

-- so does every run from a state from which the machine executes the program
abbrev pub RunsAnswer : Type 0
RunsAnswer =
    (p : Program) (words : List (List ℕ)) (s : State) (refuses : Bool) (limit : ℕ)
    (output : List ℕ) (stop : Stop) → Executes p words s → RunEnds refuses limit s output stop →
    Answers p words limit output stop

-- ---- the theorem of the whole: where all calls are kept and the start code calls `main`, the machine
-- executes the program.
abbrev pub ProgramIsExecuted : Type 0
ProgramIsExecuted =
    (c : Setting) (p : Program) (words : List (List ℕ)) (s : State)
    → IsSetting c
    → FunctionsKept c p
    → NativesPerform c
    → length words < 2 ^ 32
    → s.output ≡ []
    → CallsMain c p words s
    → Executes p words s
