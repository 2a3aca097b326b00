-- What it means that a code keeps what a function's body means, and that one code keeps another.
-- Nothing is asked about runs that become undefined.
use Rattle.std.specs.Prelude.{◌≡◌, ℕ, List, [], ◌∷◌, Option, Some, None}
use Rattle.il_ast.specs.Types.{Class, Value, Exit, Halt, Undefined, Stack, Turns}
use Rattle.il_ast.specs.Values.{in_place}
use Rattle.il_ast.specs.Memory.{Memory}
use Rattle.il_ast.specs.Effect.{Call}
use Rattle.il_ast.specs.Run.{Outcome, Returned, Ended, Callees}
use Rattle.il_ast.specs.Logged.{Event, Entry, Logged}

-- what a call finds: what it asks for, the turns that are left, the room on the stack, the memory
pub record Asked : Type 0 where
  pub call : Call
  pub turns : ℕ
  pub room : ℕ
  pub memory : Memory

-- what a body is given: the turns that are left, the room for its own calls, its arguments, the
-- memory
pub record Given : Type 0 where
  pub turns : ℕ
  pub room : ℕ
  pub args : List Value
  pub memory : Memory

-- a value that a place of this class passes on as it is: of a `w` place an integer below 2^32
abbrev pub Passes : Class → Value → Type 0
Passes c v = in_place c v ≡ Some v

-- arguments of these classes
abbrev pub AreArgs : List Class → List Value → Type 0
AreArgs [] [] = Unit {0}
AreArgs [] (v ∷ vs) = ⊥
AreArgs (c ∷ cs) [] = ⊥
AreArgs (c ∷ cs) (v ∷ vs) = Passes c v × AreArgs cs vs

-- a result, if there is one, of the class that is wanted, if one is
abbrev pub Suits : Option Class → Option Value → Type 0
Suits None v = Unit {0}
Suits (Some c) None = Unit {0}
Suits (Some c) (Some v) = Passes c v

-- a body whose calls go as given
abbrev pub Body : Type 0
Body = Callees → Given → Outcome

-- it doesn't become undefined
abbrev pub Fine : Outcome → Type 0
Fine (Returned s v m) = Unit {0}
Fine (Ended s (Exit n)) = Unit {0}
Fine (Ended s Halt) = Unit {0}
Fine (Ended s Undefined) = ⊥
Fine (Ended s Stack) = Unit {0}
Fine (Ended s Turns) = Unit {0}

-- a list of calls, each with how it goes
abbrev pub Log : Type 0
Log = List (Entry Asked Outcome)

-- each call of the list goes as these callees have it
abbrev pub AllGo : Callees → Log → Type 0
AllGo callees [] = Unit {0}
AllGo callees (e ∷ log) =
    (callees e.asked.call e.asked.turns e.asked.room e.asked.memory ≡ e.went) × AllGo callees log

-- given arguments of these classes, the code runs as the body does, whatever its calls do, with
-- calls that go so
abbrev pub KeepsMeaning : {S : Type 0} → List Class → (Given → S) →
    (Given → S → Event S Asked Outcome) → Body → Type 0
KeepsMeaning params start step body =
    (callees : Callees) (i : Given) → AreArgs params i.args → Fine (body callees i) →
    (log : Log) × AllGo callees log × ((n : ℕ)
    × Logged (step i) n (start i) log (body callees i))

-- whatever calls are made and however they go: where the first code runs as o, so does the second,
-- with the same calls
abbrev pub KeepsCode : {S T : Type 0} → List Class → (Given → S) →
    (Given → S → Event S Asked Outcome) → (Given → T) → (Given → T → Event T Asked Outcome) → Type 0
KeepsCode params start step start2 step2 =
    (log : Log) (i : Given) (o : Outcome) → AreArgs params i.args → Fine o → (n : ℕ) →
    Logged (step i) n (start i) log o → (m : ℕ) × Logged (step2 i) m (start2 i) log o
