-- What a code owes so that it keeps another code, step by step, or a function's body, turn by turn.
use Rattle.std.specs.Prelude.{◌≡◌, ℕ, zero, suc, ◌-◌, Option, Some, None}
use Rattle.il_ast.specs.Types.{Dest, Value, Turns}
use Rattle.il_ast.specs.Memory.{Memory}
use Rattle.il_ast.specs.Effect.{Env, Activation, Effect, Goes, Calls as CallsFor, Returns, Ends, assign, effect}
use Rattle.il_ast.specs.Run.{Spent, one_turn, both, Outcome, Returned, Ended}
use Rattle.il_ast.specs.Logged.{Next, On, Over, Event, Does, Calls}
use Rattle.il_ast.specs.Keeps.{Asked, Fine}

-- in k steps, none of them a call, the code comes from one state or end to another
abbrev pub Leads : {T I O : Type 0} → (T → Event T I O) → ℕ → Next T O → Next T O → Type 0
Leads {T} {I} {O} step zero x y = x ≡ y
Leads {T} {I} {O} step (suc k) x y =
    (t : T) × (x ≡ On t) × ((z : Next T O) × (step t ≡ Does z) × Leads step k z y)

-- the second comes to a related state, or to the same end; nothing is owed for an end that isn't
-- fine
abbrev pub Matches : {S T I O : Type 0} → (S → T → Type 0) → (O → Type 0) → (T → Event T I O) →
    Next S O → Next T O → Type 0
Matches {S} {T} related fine step (On s) x =
    (k : ℕ) × ((t : T) × Leads step k x (On t) × related s t)
Matches related fine step (Over o) x = fine o → (k : ℕ) × Leads step k x (Over o)

-- it comes to where it makes the same call, and is matched however that goes
abbrev pub MatchesEvent : {S T I O : Type 0} → (S → T → Type 0) → (O → Type 0) → (T → Event T I O) →
    Event S I O → T → Type 0
MatchesEvent related fine step (Does n) t = Matches related fine step n (On t)
MatchesEvent {S} {T} {I} {O} related fine step (Calls i next) t =
    (k : ℕ) × ((u : T) × Leads step k (On t) (On u)
    × ((g : O → Next T O) × (step u ≡ Calls i g)
    × ((o : O) → Matches related fine step (next o) (g o))))

-- from related states, each step of the first is matched by steps of the second: none, one or many
abbrev pub Simulates : {S T I O : Type 0} → (S → T → Type 0) → (O → Type 0) → (S → Event S I O) →
    (T → Event T I O) → Type 0
Simulates {S} {T} related fine step step2 =
    (s : S) (t : T) → related s t → MatchesEvent related fine step2 (step s) t

-- the second comes in its step to a related state, or to the same end
abbrev pub TogetherNext : {S T O : Type 0} → (S → T → Type 0) → (O → Type 0) → Next S O → Next T O →
    Type 0
TogetherNext {S} {T} related fine (On s) x = (t : T) × (x ≡ On t) × related s t
TogetherNext related fine (Over o) x = fine o → x ≡ Over o

abbrev pub Together : {S T I O : Type 0} → (S → T → Type 0) → (O → Type 0) → Event S I O →
    Event T I O → Type 0
Together {S} {T} {I} {O} related fine (Does (On s)) e = (t : T) × (e ≡ Does (On t)) × related s t
Together {S} {T} {I} {O} related fine (Does (Over o)) e = fine o → e ≡ Does (Over o)
Together {S} {T} {I} {O} related fine (Calls i next) e =
    (g : O → Next T O) × (e ≡ Calls i g) × ((o : O) → TogetherNext related fine (next o) (g o))

-- from related states, each step of the first is matched by one step of the second
abbrev pub Lockstep : {S T I O : Type 0} → (S → T → Type 0) → (O → Type 0) → (S → Event S I O) →
    (T → Event T I O) → Type 0
Lockstep {S} {T} related fine step step2 =
    (s : S) (t : T) → related s t → Together related fine (step s) (step2 t)

-- an activation and its memory, after so much was spent, and a state of the code
abbrev pub Stands : Type 0 → Type 1
Stands S = Activation → Memory → Spent → S → Type 0

-- the code comes to a related state
abbrev pub ComesTo : {S : Type 0} → Stands S → (S → Event S Asked Outcome) → Next S Outcome →
    Activation → Memory → Spent → Type 0
ComesTo {S} stands step x a m s = (k : ℕ) × ((u : S) × Leads step k x (On u) × stands a m s u)

-- it comes to this end, which is owed where it is fine
abbrev pub EndsIn : {S : Type 0} → (S → Event S Asked Outcome) → Next S Outcome → Outcome → Type 0
EndsIn step x o = Fine o → (k : ℕ) × Leads step k x (Over o)

-- after a call that returned: a result that is wanted and missing is undefined, for which nothing
-- is owed
abbrev pub Receives : {S : Type 0} → Stands S → (S → Event S Asked Outcome) → Next S Outcome →
    Option Dest → Activation → Option Value → Memory → Spent → Type 0
Receives stands step x None a v m s = ComesTo stands step x a m s
Receives stands step x (Some d) a None m s = Unit {0}
Receives stands step x (Some d) a (Some v) m s =
    ComesTo stands step x (record a { locals = assign a.locals d.temp v }) m s

abbrev pub Resumes : {S : Type 0} → Stands S → (S → Event S Asked Outcome) → Next S Outcome →
    Option Dest → Activation → Spent → Outcome → Type 0
Resumes stands step x to a s (Returned t v m) = Receives stands step x to a v m (both s t)
Resumes stands step x to a s (Ended t e) = EndsIn step x (Ended (both s t) e)

-- what the code does for a turn with this effect, of which n are left after it
abbrev pub TakesTurn : {S : Type 0} → Stands S → (S → Event S Asked Outcome) → (room n : ℕ) →
    Memory → Spent → S → Effect → Type 0
TakesTurn stands step room n m s t (Goes w a now) =
    ComesTo stands step (On t) a now (both s (one_turn w))
TakesTurn {S} stands step room n m s t (CallsFor w call to a) =
    (k : ℕ)
    × ((u : S)
    × Leads step k (On t) (On u)
    × ((g : Outcome → Next S Outcome)
    × (step u ≡ Calls (record { call = call; turns = n; room = room; memory = m }) g)
    × ((o : Outcome) → Resumes stands step (g o) to a (both s (one_turn w)) o)))
TakesTurn stands step room n m s t (Returns v now) =
    EndsIn step (On t) (Returned (both s (one_turn 1)) v now)
TakesTurn stands step room n m s t (Ends e) = EndsIn step (On t) (Ended (both s (one_turn 1)) e)

-- where no turn is left it ends so, else it takes the turn
abbrev pub Takes : {S : Type 0} → Env → Stands S → (S → Event S Asked Outcome) → (room left : ℕ) →
    Activation → Memory → Spent → S → Type 0
Takes env stands step room zero a m s t = EndsIn step (On t) (Ended s Turns)
Takes env stands step room (suc n) a m s t = TakesTurn stands step room n m s t (effect env a m)

-- from related states the code takes each turn of the body
abbrev pub TakesTurns : {S : Type 0} → Env → Stands S → (S → Event S Asked Outcome) →
    (turns room : ℕ) → Type 0
TakesTurns {S} env stands step turns room =
    (a : Activation) (m : Memory) (s : Spent) (t : S) → stands a m s t →
    Takes env stands step room (turns - s.turns) a m s t
