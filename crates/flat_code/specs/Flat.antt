-- Calls and outcomes on flat bytes, and what it means that a code on flat bytes keeps a code on
-- blocks.
use Rattle.std.specs.Prelude.{◌≡◌, ◌≢◌, ◌⊎◌, ℕ, ◌+◌, ◌%◌, ◌^◌, ◌<◌, ◌≤◌, List, [], ◌∷◌, length, slice_get, Option, Some, None, zero, suc}
use Rattle.std.specs.Int.{byte_at}
use Rattle.il_ast.specs.declared.value.Callee.{Callee}
use Rattle.il_ast.specs.declared.value.Value.{Value}
use Rattle.il_ast.specs.declared.value.Value.TheVariants.{Integer, Pointer, Function}
use Rattle.il_ast.specs.declared.value.Cell.{Cell}
use Rattle.il_ast.specs.declared.value.Cell.TheVariants.{Plain, Part, Blank}
use Rattle.il_ast.specs.Prelude.{Memory, block_at, size_at, Spent, both, Outcome, Returned, Ended, Next, On, Over, Event, Does, Calls, Logged, Asked, Given, AreArgs, Suits, Log, Fine}
use Rattle.il_ast.specs.declared.operation.Class.{Class}
use Rattle.il_ast.specs.declared.value.End.{End}

-- ---- bytes that stand for the blocks of the language's memory. This is the only place where a block
-- gets an address.

-- what is known of the byte at an address: no access is allowed; any byte; this byte
pub data Spot : Type 0 where
  NoAccess : Spot
  AnyByte : Spot
  ThisByte : ℕ → Spot

-- the addresses that may be accessed, and what is known of their bytes
abbrev pub Spots : Type 0
Spots = ℕ → Spot

-- the address of each block that has been made, for good
abbrev pub Bases : Type 0
Bases = ℕ → Option ℕ

-- the address of each function
abbrev pub Entries : Type 0
Entries = Callee → Option ℕ

-- more blocks have been made, and those before stand where they stood
abbrev pub Grown : Bases → Bases → Type 0
Grown p q = (b a : ℕ) → p b ≡ Some a → q b ≡ Some a

-- two functions never have one address, and addresses are numbers of 64 bits
pub record AreEntries (e : Entries) : Type 0 where
  pub distinct : (f g : Callee) (a : ℕ) → e f ≡ Some a → e g ≡ Some a → f ≡ g
  pub small : (f : Callee) (a : ℕ) → e f ≡ Some a → a < 2 ^ 64

-- ---- values and cells

-- the number that stands for a value
abbrev pub Shows : Entries → Bases → Value → ℕ → Type 0
Shows e p (Integer n) x = x ≡ n
Shows e p (Pointer b o) x = (a : ℕ) × (p b ≡ Some a) × (x ≡ (a + o) % 2 ^ 64)
Shows e p (Function f) x = e f ≡ Some x

abbrev pub AllShow : Entries → Bases → List Value → List ℕ → Type 0
AllShow e p [] [] = Unit {0}
AllShow e p [] (x ∷ xs) = ⊥
AllShow e p (v ∷ vs) [] = ⊥
AllShow e p (v ∷ vs) (x ∷ xs) = Shows e p v x × AllShow e p vs xs

abbrev pub ShowsResult : Entries → Bases → Option Value → Option ℕ → Type 0
ShowsResult e p None None = Unit {0}
ShowsResult e p None (Some x) = ⊥
ShowsResult e p (Some v) None = ⊥
ShowsResult e p (Some v) (Some x) = Shows e p v x

-- a byte is itself, a part of a value the same byte of its number of 64 bits, a blank cell any byte
abbrev pub ShowsCell : Entries → Bases → Cell → Spot → Type 0
ShowsCell e p (Plain b) s = s ≡ ThisByte b
ShowsCell e p (Part v k) s = (x : ℕ) × Shows e p v x × (x < 2 ^ 64) × (s ≡ ThisByte (byte_at k x))
ShowsCell e p Blank s = s ≢ NoAccess

-- ---- memory

-- where a block stands: not at 0, and not over the end
pub record IsPlaced (p : Bases) (b : ℕ) (cells : List Cell) : Type 0 where
  pub base : ℕ
  pub is : p b ≡ Some base
  pub above_zero : 0 < base
  pub below_end : base + length cells < 2 ^ 64

-- each live block stands at its address, blocks not yet made have none, live blocks have no address
-- in common, and known bytes are bytes
pub record ShowsMemory (e : Entries) (p : Bases) (m : Memory) (f : Spots) : Type 0 where
  pub placed : (b : ℕ) (cells : List Cell) → block_at m b ≡ Some cells → IsPlaced p b cells
  pub unmade : (b : ℕ) → length m ≤ b → p b ≡ None
  pub cells : (b a k : ℕ) (cells : List Cell) (c : Cell)
      → block_at m b ≡ Some cells
      → p b ≡ Some a
      → slice_get cells k ≡ Some c
      → ShowsCell e p c (f (a + k))
  pub apart : (b c a d : ℕ) (xs ys : List Cell)
      → b ≢ c
      → block_at m b ≡ Some xs
      → block_at m c ≡ Some ys
      → p b ≡ Some a
      → p c ≡ Some d
      → 0 < length xs
      → 0 < length ys
      → (a + length xs ≤ d) ⊎ (d + length ys ≤ a)
  pub bytes : (x n : ℕ) → f x ≡ ThisByte n → n < 256

-- no access is allowed from one address up to another
abbrev pub Clear : (low high : ℕ) → Spots → Type 0
Clear low high f = (x : ℕ) → low ≤ x → x < high → f x ≡ NoAccess

-- no further address may be accessed
abbrev pub SameReach : Spots → Spots → Type 0
SameReach f g = (x : ℕ) → f x ≡ NoAccess → g x ≡ NoAccess

-- the same blocks are live, with the same sizes
abbrev pub SameBlocks : Memory → Memory → Type 0
SameBlocks m n = (b : ℕ) → size_at n b ≡ size_at m b

-- what a body is given: the turns that are left, the room for its own calls, its arguments as
-- numbers, the bytes
pub record FlatGiven : Type 0 where
  pub turns : ℕ
  pub room : ℕ
  pub args : List ℕ
  pub memory : Spots

-- what a call asks: the address of the callee, the classes of its arguments and of the result that
-- it wants, and what it gives
pub record FlatAsked : Type 0 where
  pub at : ℕ
  pub classes : List Class
  pub wants : Option Class
  pub given : FlatGiven

-- how a call goes on flat bytes
pub data FlatOutcome : Type 0 where
  FlatReturned : Spent → Option ℕ → Spots → FlatOutcome
  FlatEnded : Spent → End → FlatOutcome

-- the same, after this was spent
abbrev pub flat_after : Spent → FlatOutcome → FlatOutcome
flat_after s (FlatReturned t x f) = FlatReturned (both s t) x f
flat_after s (FlatEnded t e) = FlatEnded (both s t) e

-- ---- what shows what

-- j shows i, and no access is allowed from low up to high
pub record ShowsGiven (e : Entries) (p : Bases) (low high : ℕ) (i : Given) (j : FlatGiven) : Type 0
  where
    pub turns : j.turns ≡ i.turns
    pub room : j.room ≡ i.room
    pub args : AllShow e p i.args j.args
    pub memory : ShowsMemory e p i.memory j.memory
    pub clear : Clear low high j.memory

-- what a call gives to its callee
abbrev pub given_by : Asked → Given
given_by i = record { turns = i.turns; room = i.room; args = i.call.args; memory = i.memory }

pub record ShowsAsked (e : Entries) (p : Bases) (low high : ℕ) (i : Asked) (j : FlatAsked) : Type 0
  where
    pub at : e i.call.callee ≡ Some j.at
    pub classes : j.classes ≡ i.call.classes
    pub wants : j.wants ≡ i.call.wants
    pub typed : AreArgs i.call.classes i.call.args
    pub given : ShowsGiven e p low high (given_by i) j.given

-- a return: with the same spent, a result of the class that is wanted, no further address, and the
-- blocks of before
pub record ShowsReturn (e : Entries) (p : Bases) (wants : Option Class) (before : Spots)
    (made : Memory) (s : Spent) (v : Option Value) (m : Memory) (t : Spent) (x : Option ℕ)
    (f : Spots) : Type 0 where
  pub spent : t ≡ s
  pub suits : Suits wants v
  pub result : ShowsResult e p v x
  pub memory : ShowsMemory e p m f
  pub reach : SameReach before f
  pub blocks : SameBlocks made m

-- how the call goes on bytes shows how it goes on blocks; before are the bytes and made the blocks
-- that it found
abbrev pub ShowsOutcome : Entries → Bases → Option Class → Spots → Memory → Outcome → FlatOutcome →
    Type 0
ShowsOutcome e p wants before made (Returned s v m) (FlatReturned t x f) =
    ShowsReturn e p wants before made s v m t x f
ShowsOutcome e p wants before made (Returned s v m) (FlatEnded t y) = ⊥
ShowsOutcome e p wants before made (Ended s z) (FlatReturned t x f) = ⊥
ShowsOutcome e p wants before made (Ended s z) (FlatEnded t y) = (t ≡ s) × (y ≡ z)

-- ---- runs on bytes beside runs on blocks

-- what stays during the run of a body: functions' addresses, what its calls may use of the stack,
-- and the room that they have; the result's class, and the bytes and blocks that the body found
pub record Frame : Type 0 where
  pub entries : Entries
  pub low : ℕ
  pub high : ℕ
  pub room : ℕ
  pub result : Option Class
  pub before : Spots
  pub made : Memory

-- more blocks may have been made; it goes on, or it is over as shown
abbrev pub PlaysNext : {S : Type 0} → Frame → (Bases → S → Log → Type 0) → Outcome → Bases →
    Next S FlatOutcome → Log → Type 0
PlaysNext c go o p (On s) log = (q : Bases) × Grown p q × go q s log
PlaysNext c go o p (Over r) log =
    (q : Bases) × Grown p q × ShowsOutcome c.entries q c.result c.before c.made o r × (log ≡ [])

-- a call asks what shows the next call of the list, and whatever shows how that goes, the run goes
-- on
abbrev pub PlaysEvent : {S : Type 0} → Frame → (Bases → S → Log → Type 0) → Outcome → Bases →
    Event S FlatAsked FlatOutcome → Log → Type 0
PlaysEvent c go o p (Does n) log = PlaysNext c go o p n log
PlaysEvent c go o p (Calls j k) [] = ⊥
PlaysEvent c go o p (Calls j k) (l ∷ log) =
    (q : Bases) × Grown p q × ShowsAsked c.entries q c.low c.high l.asked j
    × (l.asked.room ≡ c.room)
    × ((u : Bases) (r : FlatOutcome)
    → Grown q u
    → ShowsOutcome c.entries u l.asked.call.wants j.given.memory l.asked.memory l.went r
    → PlaysNext c go o u (k r) log)

-- within n steps the code on bytes goes as o does on blocks, with calls that show those of the list
unfoldable pub Plays : {S : Type 0} → Frame → (S → Event S FlatAsked FlatOutcome) → Outcome → ℕ →
    Bases → S → Log → Type 0
Plays c step o zero p s log = ⊥
Plays c step o (suc n) p s log =
    PlaysEvent c (λ q t rest. Plays c step o n q t rest) o p (step s) log

-- what is known of the names that the code uses: the values of global names, and the numbers that
-- stand for them
pub record Names : Type 0 where
  pub entries : Entries
  pub globals : List Value
  pub addresses : List ℕ

-- The code on bytes keeps the code on blocks: with the blocks that it makes in `area` bytes from
-- `base` upward, its calls below those, and from any bytes that show what the code on blocks is
-- given. `params` are the classes of its parameters, `result` that of its result.
abbrev pub KeepsFlat : {S T : Type 0} → Names → List Class → Option Class → (area : ℕ) →
    (Given → S) → (Given → S → Event S Asked Outcome) → ((base : ℕ) → FlatGiven → T) →
    ((base : ℕ) → FlatGiven → T → Event T FlatAsked FlatOutcome) → Type 0
KeepsFlat c params result area start step flat_start flat_step =
    (low high base : ℕ)
    → high ≤ base
    → low < base
    → base + area < 2 ^ 64
    → (log : Log) (i : Given) (o : Outcome)
    → AreArgs params i.args
    → Fine o
    → (n : ℕ)
    → Logged (step i) n (start i) log o
    → (p : Bases) (j : FlatGiven)
    → AreEntries c.entries
    → AllShow c.entries p c.globals c.addresses
    → ShowsGiven c.entries p low (base + area) i j
    → (m : ℕ) × Plays
    (record {
      entries = c.entries;
      low = low;
      high = high;
      room = i.room;
      result = result;
      before = j.memory;
      made = i.memory;
    })
    (flat_step base j) o m p (flat_start base j) log
