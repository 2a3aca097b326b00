-- What it means that code runs as a function's body, or as other code, where calls go in one way: it
-- may spend less, as where it needn't enter a call.
use Rattle.std.specs.Prelude.{◌≡◌, ℕ, ◌≤◌, List}
use Rattle.il_ast.specs.declared.operation.Class.{Class}
use Rattle.il_ast.specs.declared.value.End.TheVariants.{Exit, Halt, Undefined, Stack, Turns}
use Rattle.il_ast.specs.Prelude.{Spent, Outcome, Returned, Ended, Callees, Event, Logged, Asked, Given, Body, Log, AreArgs, AllGo}

-- the same turns and output, and no more weight and calls
pub record IsCheaper (t s : Spent) : Type 0 where
  pub turns : t.turns ≡ s.turns
  pub weight : t.weight ≤ s.weight
  pub calls : t.calls ≤ s.calls
  pub output : t.output ≡ s.output

-- the first goes as the second, but that it may spend less
abbrev pub GoesSo : Outcome → Outcome → Type 0
GoesSo (Returned t v m) (Returned s w n) = IsCheaper t s × (v ≡ w) × (m ≡ n)
GoesSo (Returned t v m) (Ended s f) = ⊥
GoesSo (Ended t e) (Returned s w n) = ⊥
GoesSo (Ended t e) (Ended s f) = IsCheaper t s × (e ≡ f)

-- it neither becomes undefined nor runs out of stack
abbrev pub HasRoom : Outcome → Type 0
HasRoom (Returned s v m) = Unit {0}
HasRoom (Ended s (Exit n)) = Unit {0}
HasRoom (Ended s Halt) = Unit {0}
HasRoom (Ended s Undefined) = ⊥
HasRoom (Ended s Stack) = ⊥
HasRoom (Ended s Turns) = Unit {0}

-- a run of the code, with calls that go as these have it, which goes as o
pub record RunsAs {S : Type 0} (callees : Callees) (start : Given → S)
    (step : Given → S → Event S Asked Outcome) (i : Given) (o : Outcome) : Type 0 where
  pub went : Outcome
  pub goes : GoesSo went o
  pub log : Log
  pub calls : AllGo callees log
  pub steps : ℕ
  pub runs : Logged (step i) steps (start i) log went

-- given arguments of these classes, and at most so many turns, the code runs as the body does where
-- calls go so and the stack has room for them
abbrev pub KeepsRuns : {S : Type 0} → Callees → (turns : ℕ) → List Class → (Given → S) →
    (Given → S → Event S Asked Outcome) → Body → Type 0
KeepsRuns calls turns params start step body =
    (i : Given) → i.turns ≤ turns → AreArgs params i.args → HasRoom (body calls i) →
    RunsAs calls start step i (body calls i)

-- so too for a first code and a second in its place
abbrev pub KeepsIn : {S T : Type 0} → Callees → (turns : ℕ) → List Class → (Given → S) →
    (Given → S → Event S Asked Outcome) → (Given → T) → (Given → T → Event T Asked Outcome) → Type 0
KeepsIn calls turns params start step start2 step2 =
    (i : Given) (o : Outcome) (log : Log) (n : ℕ) → i.turns ≤ turns → AreArgs params i.args →
    HasRoom o → AllGo calls log → Logged (step i) n (start i) log o → RunsAs calls start2 step2 i o
