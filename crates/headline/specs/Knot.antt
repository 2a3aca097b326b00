-- What it means that the machine keeps a program's calls: for each function from what its layers
-- promise, and for all together where each is kept.
use Rattle.std.specs.Prelude.{◌≡◌, ℕ, ◌+◌, ◌%◌, ◌<◌, ◌≤◌, List, Option, Some, zero, suc, ◌^◌, nat_eq, if◌then◌else◌, [], ◌∷◌, None, option_map, option_and_then}
use Rattle.il_ast.specs.declared.operation.Class.{Class}
use Rattle.il_ast.specs.declared.value.Callee.{Callee}
use Rattle.il_ast.specs.declared.value.Value.{Value}
use Rattle.il_ast.specs.Prelude.{Outcome, Callees, one_call, Event, Asked, Given, Body, AreArgs, nothing}
use Rattle.vcode.specs.Prelude.{KeepsRuns}
use Rattle.flat_code.specs.Flat.{Bases, Entries, AreEntries, Grown, AllShow, FlatGiven, FlatAsked, FlatOutcome, flat_after, ShowsGiven, ShowsAsked, ShowsOutcome, KeepsFlat, Spot, NoAccess, AnyByte, ThisByte, Spots, FlatReturned, FlatEnded}
use Rattle.abi_frames.specs.Performs.{World, IsWorld, GoodStack, PerformsAt, KeepsFrame}
use Rattle.rv_isa.specs.declared.abi.TheConstants.{STANDARD_OUTPUT, BAD_DESCRIPTOR}
use Rattle.il_ast.specs.declared.operation.Class.TheVariants.{W, L}
use Rattle.il_ast.specs.declared.value.Callee.TheVariants.{SystemWrite, SystemExit}
use Rattle.il_ast.specs.declared.value.End.TheVariants.{Exit, Undefined}

-- what stays while a program runs: the machine's memory, the functions' addresses, and where the
-- blocks of the start stand
pub record Setting : Type 0 where
  pub world : World
  pub entries : Entries
  pub start : Bases

pub record IsSetting (c : Setting) : Type 0 where
  pub world : IsWorld c.world
  pub entries : AreEntries c.entries
  pub aligned : (f : Callee) (a : ℕ) → c.entries f ≡ Some a → a % 4 ≡ 0

-- ---- calls

-- the call goes on bytes in a way that shows how it goes on blocks, and the machine performs that
pub record KeptCall (c : Setting) (sp : ℕ) (p : Bases) (i : Asked) (j : FlatAsked)
    (o : Outcome) : Type 0 where
  pub placed : Bases
  pub went : FlatOutcome
  pub grown : Grown p placed
  pub shows : ShowsOutcome c.entries placed i.call.wants j.given.memory i.memory o went
  pub performs : PerformsAt c.world j.at sp j.classes j.wants j.given went

-- whatever bytes show what the call asks, if the stack has the room
abbrev pub KeepsCall : Setting → (sp : ℕ) → Asked → Outcome → Type 0
KeepsCall c sp i o =
    (p : Bases) (j : FlatAsked)
    → Grown c.start p
    → ShowsAsked c.entries p c.world.bottom sp i j
    → GoodStack c.world sp i.room
    → KeptCall c sp p i j o

-- all calls are kept, at every stack pointer
abbrev pub AllKept : Setting → Callees → Type 0
AllKept c callees = (sp : ℕ) (i : Asked) → KeepsCall c sp i (callees i.call i.turns i.room i.memory)

-- ---- bodies

pub record KeptBody (c : Setting) (at sp : ℕ) (params : List Class) (result : Option Class)
    (p : Bases) (i : Given) (j : FlatGiven) (o : Outcome) : Type 0 where
  pub placed : Bases
  pub went : FlatOutcome
  pub grown : Grown p placed
  pub shows : ShowsOutcome c.entries placed result j.memory i.memory o went
  pub performs : PerformsAt c.world at sp params result j (flat_after one_call went)

-- where these calls are kept, so is the call of the function at `at` that has this body, in at most
-- so many turns
abbrev pub KeepsBody : Setting → (at need turns : ℕ) → List Class → Option Class → Body →
    Callees → Type 0
KeepsBody c at need turns params result body callees =
    AllKept c callees
    → (sp : ℕ) (p : Bases) (i : Given) (j : FlatGiven)
    → i.turns ≤ turns
    → Grown c.start p
    → AreArgs params i.args
    → ShowsGiven c.entries p c.world.bottom sp i j
    → GoodStack c.world sp (need + i.room)
    → KeptBody c at sp params result p i j (body callees i)

-- What the layers of one function promise together: its code on blocks runs as its body does where
-- calls go as these have it, its code on bytes keeps that, and its machine code at `at` keeps that in
-- a frame of at most `need` bytes.
pub record Layers {S T : Type 0} (c : Setting) (at need frame area turns : ℕ) (params : List Class)
    (result : Option Class) (globals : List Value) (addresses : List ℕ) (body : Body)
    (callees : Callees) (start : Given → S) (step : Given → S → Event S Asked Outcome)
    (flat_start : (base : ℕ) → FlatGiven → T) (flat_step : (base : ℕ) → FlatGiven → T →
    Event T FlatAsked FlatOutcome) : Type 0 where
  pub meaning : KeepsRuns callees turns params start step body
  pub flat : KeepsFlat (record { entries = c.entries; globals = globals; addresses = addresses })
      params result area start step flat_start flat_step
  pub machine : KeepsFrame c.world at need frame area params result flat_start flat_step
  pub names : AllShow c.entries c.start globals addresses
  pub area_fits : area ≤ frame
  pub frame_fits : frame ≤ need
  pub some : area < need
  pub aligned : frame % 16 ≡ 0

-- ---- what the machine code of `write` and `exit` owes: what the two do on flat bytes
abbrev pub known_byte : Spot → Option ℕ
known_byte NoAccess = None
known_byte AnyByte = None
known_byte (ThisByte b) = Some b

-- the n bytes from an address upward, where each is known
abbrev pub known_bytes : Spots → (at n : ℕ) → Option (List ℕ)
known_bytes f at zero = Some []
known_bytes f at (suc n) =
    option_and_then (λ b. option_map (λ bs. b ∷ bs) (known_bytes f (at + 1) n)) (known_byte (f at))

abbrev pub flat_answered : List ℕ → ℕ → Spots → FlatOutcome
flat_answered output n f = FlatReturned (record one_call { output = output }) (Some n) f

abbrev pub flat_put_out : ℕ → Spots → Option (List ℕ) → FlatOutcome
flat_put_out n f None = FlatEnded nothing Undefined
flat_put_out n f (Some bytes) = flat_answered bytes n f

-- `write (w descriptor, l from, l count)`
abbrev pub flat_write : Spots → List ℕ → FlatOutcome
flat_write f (d ∷ from ∷ n ∷ []) =
    if nat_eq (d % 2 ^ 32) STANDARD_OUTPUT
    then (if nat_eq n 0 then flat_answered [] 0 f else flat_put_out n f (known_bytes f from n))
    else flat_answered [] BAD_DESCRIPTOR f
flat_write f args = FlatEnded nothing Undefined

-- `exit (w status)`
abbrev pub flat_exit : List ℕ → FlatOutcome
flat_exit (s ∷ []) = FlatEnded one_call (Exit (s % 256))
flat_exit args = FlatEnded nothing Undefined

-- what stands at the addresses of the two performs them, at every stack pointer and with no stack
-- of its own
pub record NativesPerform (c : Setting) : Type 0 where
  pub write : (at sp : ℕ) (j : FlatGiven)
      → c.entries SystemWrite ≡ Some at
      → GoodStack c.world sp j.room
      → PerformsAt c.world at sp (W ∷ L ∷ L ∷ []) (Some L) j (flat_write j.memory j.args)
  pub exit : (at sp : ℕ) (j : FlatGiven)
      → c.entries SystemExit ≡ Some at
      → GoodStack c.world sp j.room
      → PerformsAt c.world at sp (W ∷ []) None j (flat_exit j.args)
