-- What it means that the machine performs a call, within its price and with a bound on the turns
-- between two instructions; and what a function's machine code owes.
use Rattle.std.specs.Prelude.{◌≡◌, ◌≢◌, ℕ, ◌+◌, ◌-◌, ◌*◌, ◌%◌, ◌^◌, ◌<◌, ◌≤◌, Bool, true, ◌&&◌, ◌||◌, nat_le, List, length, slice_get, Option, Some, None, [], ◌∷◌, ◌++◌, false, if◌then◌else◌, slice_index_or}
use Rattle.bits.specs.Words.{sign_extended}
use Rattle.rv_isa.specs.declared.abi.TheConstants.{RETURN_ADDRESS, STACK_POINTER, THREAD_POINTER, FIRST_SAVED, SECOND_SAVED, FIRST_ARGUMENT, ARGUMENT_REGISTERS, RESULT, THIRD_SAVED, LAST_SAVED}
use Rattle.il_ast.specs.declared.operation.Class.{Class}
use Rattle.il_ast.specs.declared.operation.Class.TheVariants.{W, L}
use Rattle.rv_isa.specs.Prelude.{State, number_at, Ground, Fixed, Stop, Exited, Broken, Stopped, runs, Comes, Stand}
use Rattle.flat_code.specs.Flat.{NoAccess, ThisByte, Spots, Clear, SameReach, FlatGiven, FlatAsked, FlatOutcome, FlatReturned, FlatEnded, flat_after}
use Rattle.il_ast.specs.declared.value.End.TheVariants.{Exit, Halt, Undefined, Stack, Turns}
use Rattle.il_ast.specs.Prelude.{Spent, one_call, Event, Entry, Logged, round_16}
use Rattle.abi_frames.specs.declared.pace.TheConstants.{TURN_BOUND}
use Rattle.std.specs.List.{list_any, sum_by}
use Rattle.vcode.specs.declared.place.Location.{Location}
use Rattle.vcode.specs.declared.place.Destination.{Destination}
use Rattle.vcode.specs.declared.line.Line.{Line}
use Rattle.vcode.specs.declared.line.Line.TheVariants.{Call}
use Rattle.vcode.specs.declared.code.Block.{Block}
use Rattle.vcode.specs.declared.code.Code.{Code}
pub use Rattle.vcode.specs.Outgoing.{args_on_stack, most_in_lines, most_in_blocks, outgoing, frame_bound}
pub use Rattle.frame_ways.specs.Plans.{is_register, writes, callee_saved}
use Rattle.vcode.specs.Prelude.{area, turns_of}
use Rattle.abi_frames.specs.declared.layout.Layout.{Layout}
use Rattle.rv_isa.specs.declared.labelled.Item.{Item}

-- ---- calls on the machine, by the integer calling convention (RISC-V ELF psABI, "Integer Calling
-- Convention", LP64): arguments in x10 to x17 and then on the stack, a result in x10, the return
-- address in x1, the stack pointer in x2, and registers that a callee keeps.

-- the memory that the machine runs on: permissions and code, and where the stack lies
pub record World : Type 0 where
  pub memory_map : Ground
  pub bottom : ℕ
  pub top : ℕ

-- an address whose byte can be read and written
pub record IsUsable (g : Ground) (x : ℕ) : Type 0 where
  pub readable : (g.allows x).readable ≡ true
  pub writable : (g.allows x).writable ≡ true
  pub small : x < 2 ^ 64

-- the stack is the program's to use
pub record IsWorld (w : World) : Type 0 where
  pub usable : (x : ℕ) → w.bottom ≤ x → x < w.top → IsUsable w.memory_map x
  pub above_zero : 0 < w.bottom
  pub small : w.top < 2 ^ 63

-- the machine has the bytes that are known, and may access what can be accessed
pub record HoldsSpots (g : Ground) (f : Spots) (s : State) : Type 0 where
  pub known : (x n : ℕ) → f x ≡ ThisByte n → s.bytes x ≡ n
  pub usable : (x : ℕ) → f x ≢ NoAccess → IsUsable g x

-- how a number of this class stands in a register or in eight bytes of the stack: of 32 bits, it is
-- sign-extended
abbrev pub passed : Class → ℕ → ℕ
passed W n = sign_extended (n % 2 ^ 32)
passed L n = n

-- the stack pointer has so many bytes of stack below it
pub record GoodStack (w : World) (sp bytes : ℕ) : Type 0 where
  pub above : w.bottom + bytes ≤ sp
  pub below : sp ≤ w.top
  pub aligned : sp % 16 ≡ 0

-- the machine has come to `at` by a call with arguments of these classes; all that isn't said here
-- holds anything
pub record Ready (w : World) (at sp : ℕ) (classes : List Class) (j : FlatGiven) (s : State) : Type 0
  where
    pub fixed : Fixed w.memory_map s
    pub place : s.pc ≡ at
    pub stack_pointer : s.registers STACK_POINTER ≡ sp
    pub return_address : s.registers RETURN_ADDRESS % 4 ≡ 0
    pub in_registers : (k n : ℕ) (c : Class)
        → k < ARGUMENT_REGISTERS
        → slice_get classes k ≡ Some c
        → slice_get j.args k ≡ Some n
        → s.registers (FIRST_ARGUMENT + k) ≡ passed c n
    pub on_stack : (k n : ℕ) (c : Class)
        → ARGUMENT_REGISTERS ≤ k
        → slice_get classes k ≡ Some c
        → slice_get j.args k ≡ Some n
        → number_at s.bytes (sp + 8 * (k - ARGUMENT_REGISTERS)) 8 ≡ passed c n
    pub below_top : sp + 8 * (length classes - ARGUMENT_REGISTERS) ≤ w.top
    pub memory : HoldsSpots w.memory_map j.memory s

-- the registers that a callee leaves as they were: x2 to x4, x8, x9, x18 to x27
abbrev pub is_kept : ℕ → Bool
is_kept n =
    (nat_le STACK_POINTER n && nat_le n THREAD_POINTER)
    || (nat_le FIRST_SAVED n && nat_le n SECOND_SAVED)
    || (nat_le THIRD_SAVED n && nat_le n LAST_SAVED)

-- the result of a call that wants this class
abbrev pub ResultIn : Option Class → Option ℕ → State → Type 0
ResultIn None x u = Unit {0}
ResultIn (Some c) None u = Unit {0}
ResultIn (Some c) (Some n) u = u.registers RESULT ≡ passed c n

-- The machine has come back from a call, which began in s with the stack pointer sp and these
-- spots, and left the spots `now`. From the stack pointer upward it has changed no byte that the
-- program may not access.
pub record Back (w : World) (sp : ℕ) (before : Spots) (s : State) (now : Spots) (u : State) : Type 0
  where
    pub fixed : Fixed w.memory_map u
    pub place : u.pc ≡ s.registers RETURN_ADDRESS
    pub kept : (n : ℕ) → is_kept n ≡ true → u.registers n ≡ s.registers n
    pub memory : HoldsSpots w.memory_map now u
    pub others : (x : ℕ) → sp ≤ x → before x ≡ NoAccess → u.bytes x ≡ s.bytes x

-- the instructions that may be done for what was spent: 32 for each unit of weight, and 256 for
-- each call entered
abbrev pub allowance : Spent → ℕ
allowance t = 32 * t.weight + 256 * t.calls

-- at most so many turns begin between two instructions
abbrev pub turn_bound : ℕ
turn_bound = TURN_BOUND

-- the machine goes from s to a return
pub record Returns (w : World) (sp : ℕ) (wants : Option Class) (before : Spots) (s : State)
    (t : Spent) (x : Option ℕ) (now : Spots) : Type 0 where
  pub steps : ℕ
  pub after : State
  pub comes : Comes s steps after
  pub price : steps ≤ allowance t
  pub pace : t.turns ≤ turn_bound * steps
  pub output : after.output ≡ s.output ++ t.output
  pub result : ResultIn wants x after
  pub back : Back w sp before s now after

-- the machine goes from s to this stop
pub record Stops (s : State) (t : Spent) (stop : Stop) : Type 0 where
  pub steps : ℕ
  pub last : State
  pub stopped : runs steps s ≡ Stopped stop last
  pub price : steps ≤ allowance t
  pub output : last.output ≡ s.output ++ t.output

-- the machine goes on from s, with this output
pub record KeepsOn (s : State) (t : Spent) : Type 0 where
  pub steps : ℕ
  pub after : State
  pub comes : Comes s steps after
  pub price : steps ≤ allowance t
  pub pace : t.turns ≤ turn_bound * (steps + 1)
  pub output : after.output ≡ s.output ++ t.output

-- the machine performs from s what goes so; nothing is asked where the program becomes undefined or
-- runs out of stack
abbrev pub Performs : World → ℕ → Option Class → Spots → State → FlatOutcome → Type 0
Performs w sp wants before s (FlatReturned t x now) = Returns w sp wants before s t x now
Performs w sp wants before s (FlatEnded t (Exit n)) = Stops s t (Exited n)
Performs w sp wants before s (FlatEnded t Halt) = Stops s t Broken
Performs w sp wants before s (FlatEnded t Undefined) = Unit {0}
Performs w sp wants before s (FlatEnded t Stack) = Unit {0}
Performs w sp wants before s (FlatEnded t Turns) = KeepsOn s t

-- from every state that is ready for the call
abbrev pub PerformsAt : World → (at sp : ℕ) → List Class → Option Class → FlatGiven → FlatOutcome →
    Type 0
PerformsAt w at sp classes wants j r =
    (s : State) → Ready w at sp classes j s → Performs w sp wants j.memory s r

-- a return leaves no further address to be accessed
abbrev pub ReachStays : Spots → FlatOutcome → Type 0
ReachStays before (FlatReturned t x now) = SameReach before now
ReachStays before (FlatEnded t e) = Unit {0}

-- the machine performs each call of the list, at this stack pointer
abbrev pub AllPerform : World → (sp : ℕ) → List (Entry FlatAsked FlatOutcome) → Type 0
AllPerform w sp [] = Unit {0}
AllPerform w sp (l ∷ log) =
    PerformsAt w l.asked.at sp l.asked.classes l.asked.wants l.asked.given l.went
    × (l.asked.at % 4 ≡ 0) × ReachStays l.asked.given.memory l.went
    × AllPerform w sp log

-- The machine code of a function performs what its code on bytes runs, if it performs the calls
-- that this makes: at `at`, in a frame of `frame` bytes below the stack pointer, the uppermost
-- `area` of which hold the blocks that it makes. `need` is the stack that a call of the function
-- takes from the room.
abbrev pub KeepsFrame : {T : Type 0} → World → (at need frame area : ℕ) → List Class →
    Option Class → ((base : ℕ) → FlatGiven → T) →
    ((base : ℕ) → FlatGiven → T → Event T FlatAsked FlatOutcome) → Type 0
KeepsFrame w at need frame area params result start step =
    (sp : ℕ) (j : FlatGiven)
    → GoodStack w sp (need + j.room)
    → Clear w.bottom sp j.memory
    → (log : List (Entry FlatAsked FlatOutcome)) (r : FlatOutcome) (n : ℕ)
    → Logged (step (sp - area) j) n (start (sp - area) j) log r
    → AllPerform w (sp - frame) log
    → PerformsAt w at sp params result j (flat_after one_call r)

-- ---- where things stand in a function's frame. Upward from the stack pointer: arguments of calls past
-- the eighth, saved registers, slots, and the area for blocks of memory, up to the stack pointer of
-- the caller.
abbrev pub block_writes : (number : ℕ) → Block Location → Bool
block_writes n b = list_any (writes n) b.lines

-- a register that is the place of a parameter, or the destination of a line
abbrev pub is_written : Code Location → (number : ℕ) → Bool
is_written f n =
    list_any (λ (d : Destination Location). is_register n d.place) f.params
    || list_any (block_writes n) f.blocks

-- those of these registers that the code writes
abbrev pub written_of : Code Location → List ℕ → List ℕ
written_of f [] = []
written_of f (r ∷ rs) = if is_written f r then r ∷ written_of f rs else written_of f rs

abbrev pub is_call : Line Location → Bool
is_call (Call to callee args) = true
is_call l = false

abbrev pub block_calls : Block Location → Bool
block_calls b = list_any is_call b.lines

abbrev pub makes_call : Code Location → Bool
makes_call f = list_any block_calls f.blocks

-- the return address, which a call writes
abbrev pub return_address : Code Location → List ℕ
return_address f = if makes_call f then RETURN_ADDRESS ∷ [] else []

-- where the code makes a call the return address, and those of them that it writes
unfoldable pub saved_registers : Code Location → List ℕ
saved_registers f = return_address f ++ written_of f callee_saved

-- the offset of the first saved register, and that of the first slot, in bytes from the stack
-- pointer
abbrev pub saves_offset : Code Location → ℕ
saves_offset f = 8 * outgoing f

abbrev pub slots_offset : Code Location → ℕ
slots_offset f = 8 * (outgoing f + length (saved_registers f))

-- the bytes of the frame
abbrev pub frame_size : Code Location → (slots : ℕ) → ℕ
frame_size f slots = round_16 (area f + 8 * (slots + outgoing f + length (saved_registers f)))

-- the turns of the source that begin in the code
abbrev pub turns_in : Code Location → ℕ
turns_in f = sum_by (λ b. sum_by turns_of b.lines) f.blocks

-- Whether a block may fall into the one behind it. No instruction need then stand between two
-- ticks: so all turns that begin in the code may begin between two instructions, and these are at
-- most as many as may.
abbrev pub falls_through : Code Location → Bool
falls_through f = nat_le (turns_in f) TURN_BOUND

abbrev pub layout : Code Location → (slots : ℕ) → Layout
layout f slots =
    record {
      saves = saves_offset f;
      slots = slots_offset f;
      area = frame_size f slots - area f;
      size = frame_size f slots;
      result = f.result;
      leave = length f.blocks;
      falls = falls_through f;
    }

-- ---- what the labelled code of a function owes, wherever it stands

-- The frame has at most `need` bytes, and the area for blocks of memory lies in it. In every world,
-- at every address where the labelled code stands, with the globals at addresses below 2^30, those
-- that the code on bytes names at these ones, the machine performs what the code on bytes runs.
pub record FramePromise {T : Type 0} (items : List Item) (need frame area : ℕ) (params : List Class)
    (result : Option Class) (start : (addresses : List ℕ) → (base : ℕ) → FlatGiven → T)
    (step : (addresses : List ℕ) → (base : ℕ) → FlatGiven → T →
    Event T FlatAsked FlatOutcome) : Type 0 where
  pub fits : frame ≤ need
  pub area_fits : area ≤ frame
  pub some : area < need
  pub aligned : frame % 16 ≡ 0
  pub keeps : (w : World) (at : ℕ) (label global : ℕ → ℕ) (addresses : List ℕ)
      → IsWorld w
      → ((n a : ℕ) → slice_get addresses n ≡ Some a → global n ≡ a)
      → ((n : ℕ) → global n < 2 ^ 30)
      → at % 4 ≡ 0
      → Stand w.memory_map label global items at
      → KeepsFrame w at need frame area params result (start addresses) (step addresses)

-- ---- marks of registers

-- whether the register has a mark
abbrev pub is_marked : List Bool → ℕ → Bool
is_marked marks n = slice_index_or marks n false
