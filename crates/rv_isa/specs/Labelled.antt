-- What it means that labelled code stands at an address. An item has no meaning of its own: it
-- stands between two addresses where the machine, coming to the first, does what the item says, in
-- a bounded number of instructions.
use Rattle.std.specs.Prelude.{◌≡◌, ℕ, zero, suc, ◌+◌, Result, Ok, Err, ◌≢◌, ◌%◌, ◌^◌, ◌<◌, ◌≤◌, true, false, if◌then◌else◌, List, [], ◌∷◌, Some, Bool, ◌*◌, ◌&&◌, IsTrue, length, slice_get, slice_set}
use Rattle.rv_isa.specs.State.{State, register, IsState}
use Rattle.rv_isa.specs.Step.{Stop, step, act}
use Rattle.rv_isa.specs.Memory.{number_at, allowed, is_code, stored, each_of}
use Rattle.rv_isa.specs.Arithmetic.{taken}
use Rattle.rv_isa.specs.Decoding.{instruction_of}
use Rattle.rv_isa.specs.Relocations.{relocated, named, filled_in, reaches}
use Rattle.rv_isa.specs.Types.{JUMP_SCRATCH, RETURN_ADDRESS, Permission, Instr, Item, Plain, Label, Goto, Call, Relocated, Hole}
use Rattle.rv_isa.specs.declared.labelled.Item.TheVariants.{Branch}
use Rattle.rv_isa.specs.Encoding.{word}

-- ---- runs of the machine

-- a run goes on from a state, or stopped in one: the state at the instruction that stopped, which
-- that instruction did not change
pub data Run : Type 0 where
  Going : State → Run
  Stopped : Stop → State → Run

abbrev pub then_run : (State → Run) → State → Result State Stop → Run
then_run rest s (Ok t) = rest t
then_run rest s (Err e) = Stopped e s

-- the run of n instructions, or up to the first that stops, which counts as one
unfoldable pub runs : ℕ → State → Run
runs zero s = Going s
runs (suc n) s = then_run (runs n) s (step s)

-- after n instructions s has come to t: whatever is run from t is run from s with n more
pub record Comes (s : State) (n : ℕ) (t : State) : Type 0 where
  pub comes : (k : ℕ) → runs (n + k) s ≡ runs k t

-- what stays while a program runs: the permissions, and the bytes that can't be written
pub record Ground : Type 0 where
  pub allows : ℕ → Permission
  pub code : ℕ → ℕ

-- the machine stands on this ground, and holds numbers in range
pub record Fixed (g : Ground) (s : State) : Type 0 where
  pub permissions : s.allows ≡ g.allows
  pub code_here : (a : ℕ) → (g.allows a).writable ≡ false → s.bytes a ≡ g.code a
  pub words : (n : ℕ) → s.registers n < 2 ^ 64
  pub small : (a : ℕ) → s.bytes a < 256

-- the word of i stands at `a`, as code
pub record InstrAt (g : Ground) (a : ℕ) (i : Instr) : Type 0 where
  pub fetched : allowed (λ x. is_code (g.allows x)) a 4 ≡ true
  pub decoded : instruction_of (number_at g.code a 4) ≡ Some i
  pub aligned : a % 4 ≡ 0
  pub inside : a + 4 < 2 ^ 64

-- in 1 to `most` instructions the machine comes from s to the address `to`; all else stays but x31
pub record Moves (g : Ground) (most to : ℕ) (s : State) : Type 0 where
  pub count : ℕ
  pub after : State
  pub comes : Comes s count after
  pub at_least_one : 0 < count
  pub at_most : count ≤ most
  pub place : after.pc ≡ to
  pub fixed : Fixed g after
  pub output : after.output ≡ s.output
  pub bytes : after.bytes ≡ s.bytes
  pub registers : (n : ℕ) → n ≢ JUMP_SCRATCH → after.registers n ≡ s.registers n

-- in one or two instructions the machine comes from s to the address `to`, with the address `back`
-- in x1; all else stays
pub record Calls (g : Ground) (to back : ℕ) (s : State) : Type 0 where
  pub count : ℕ
  pub after : State
  pub comes : Comes s count after
  pub at_least_one : 0 < count
  pub at_most : count ≤ 2
  pub place : after.pc ≡ to
  pub fixed : Fixed g after
  pub output : after.output ≡ s.output
  pub bytes : after.bytes ≡ s.bytes
  pub return_address : after.registers RETURN_ADDRESS ≡ back
  pub registers : (n : ℕ) → n ≢ RETURN_ADDRESS → after.registers n ≡ s.registers n

-- the item stands from a up to b, with labels and globals at these addresses; a call does what it
-- says where the global's address is a multiple of 4 and small
unfoldable pub Stands : (g : Ground) (label global : ℕ → ℕ) → Item → (a b : ℕ) → Type 0
Stands g label global (Plain i) a b = InstrAt g a i × (b ≡ a + 4)
Stands g label global (Label l) a b = (label l ≡ a) × (b ≡ a)
Stands g label global (Branch op rs1 rs2 l) a b =
    (s : State) → Fixed g s → s.pc ≡ a → Moves g 3
    (if taken op (register s rs1) (register s rs2) then label l else b) s
Stands g label global (Goto l) a b = (s : State) → Fixed g s → s.pc ≡ a → Moves g 2 (label l) s
Stands g label global (Call n) a b =
    (b % 4 ≡ 0)
    × (global n % 4 ≡ 0 → global n < 2 ^ 30 → (s : State) → Fixed g s → s.pc ≡ a → Calls g (global n) b s)
Stands g label global (Relocated r) a b = InstrAt g a (relocated r (global r.global)) × (b ≡ a + 4)

-- the items stand one after another from a on
unfoldable pub Stand : (g : Ground) (label global : ℕ → ℕ) → List Item → (a : ℕ) → Type 0
Stand g label global [] a = Unit {0}
Stand g label global (i ∷ is) a = (b : ℕ) × Stands g label global i a b × Stand g label global is b

-- ---- laws of the definitions, on which statements about code rest

-- the word of an instruction is decoded as that instruction
abbrev pub WordsDecode : Type 0
WordsDecode = (i : Instr) → instruction_of (word i) ≡ Some i

-- an instruction that stands at pc is what a step does
abbrev pub StepActs : Type 0
StepActs = (g : Ground) (s : State) (i : Instr) → Fixed g s → InstrAt g s.pc i → step s ≡ act i s

-- a step is a run of one, and runs compose
abbrev pub StepsCome : Type 0
StepsCome = (s t : State) → step s ≡ Ok t → Comes s 1 t

abbrev pub RunsCompose : Type 0
RunsCompose = (s t u : State) (m n : ℕ) → Comes s m t → Comes t n u → Comes s (m + n) u

-- a number of n bytes that was stored is read back
abbrev pub StoredIsRead : Type 0
StoredIsRead = (f : ℕ → ℕ) (at n v : ℕ) → v < 256 ^ n → number_at (stored f at n v) at n ≡ v

-- a store changes no byte below it or above it, and none that fails a test which its bytes pass
abbrev pub BelowStays : Type 0
BelowStays = (f : ℕ → ℕ) (at n v x : ℕ) → x < at → stored f at n v x ≡ f x

abbrev pub AboveStays : Type 0
AboveStays = (f : ℕ → ℕ) (at n v x : ℕ) → at + n ≤ x → stored f at n v x ≡ f x

abbrev pub OthersStay : Type 0
OthersStay =
    (p : ℕ → Bool) (f : ℕ → ℕ) (at n v x : ℕ) → each_of p at n ≡ true → p x ≡ false →
    stored f at n v x ≡ f x

-- permissions, and bytes that may not be written, are the same
pub record Stays (s t : State) : Type 0 where
  pub allows : t.allows ≡ s.allows
  pub bytes : (a : ℕ) → (s.allows a).writable ≡ false → t.bytes a ≡ s.bytes a

-- no step changes permissions or bytes that may not be written
abbrev pub StepStays : Type 0
StepStays = (s t : State) → step s ≡ Ok t → Stays s t

-- a step of a state in range gives a state in range
abbrev pub StepKeeps : Type 0
StepKeeps = (s t : State) → IsState s → step s ≡ Ok t → IsState t

-- ---- what the words of laid-out code owe to the labelled code that they were made from

-- these words stand from an address upward, as code
pub record WordsStand (g : Ground) (at : ℕ) (words : List ℕ) : Type 0 where
  pub aligned : at % 4 ≡ 0
  pub inside : at + 4 * length words < 2 ^ 64
  pub here : (k w : ℕ) → slice_get words k ≡ Some w → number_at g.code (at + 4 * k) 4 ≡ w
  pub fetched : (k w : ℕ) → slice_get words k ≡ Some w →
      allowed (λ a. is_code (g.allows a)) (at + 4 * k) 4 ≡ true

-- the word of a hole in words from an address on becomes that of its instruction
abbrev pub fill : (at : ℕ) → (ℕ → ℕ) → List ℕ → Hole → List ℕ
fill at global words h =
    slice_set words h.word (word (filled_in h.filling (at + 4 * h.word) (global (named h.filling))))

abbrev pub filled : (at : ℕ) → (ℕ → ℕ) → List ℕ → List Hole → List ℕ
filled at global words [] = words
filled at global words (h ∷ holes) = filled at global (fill at global words h) holes

-- each hole's instruction reaches the address that it waits for
abbrev pub all_reach : (at : ℕ) → (ℕ → ℕ) → List Hole → Bool
all_reach at global [] = true
all_reach at global (h ∷ holes) =
    reaches h.filling (at + 4 * h.word) (global (named h.filling)) && all_reach at global holes

-- Wherever the words stand with addresses filled in, all within reach, the labelled code stands
-- there.
abbrev pub LaysOut : List Item → List ℕ → List Hole → Type 0
LaysOut items words holes =
    (g : Ground) (at : ℕ) (global : ℕ → ℕ)
    → IsTrue (all_reach at global holes)
    → WordsStand g at (filled at global words holes)
    → (label : ℕ → ℕ) × Stand g label global items at
