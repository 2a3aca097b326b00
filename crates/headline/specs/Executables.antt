-- Where the functions and data of a placed program stand, and what its executable does of itself:
-- its data, `write`, `exit` and the start code.
use Rattle.std.specs.Prelude.{ℕ, nat_lt, if◌then◌else◌, ◌≡◌, map, slice_get, Some, ◌+◌, ◌%◌, ◌≤◌, List, [], ◌*◌, ◌^◌, ◌<◌, ◌&&◌, ◌||◌, nat_le, ◌∷◌, ◌++◌, length, Option}
use Rattle.il_ast.specs.declared.program.Program.{Program}
use Rattle.il_ast.specs.declared.value.End.TheVariants.{Turns}
use Rattle.il_ast.specs.Prelude.{nothing, Ended, Callees, callees, need, body, globals_of, Body, Coded, classes_of, start_memory, main_call, stack_room, object_cells, params_of}
use Rattle.il_ast.specs.declared.function.Param.{Param}
use Rattle.il_ast.specs.declared.function.Func.{Func}
use Rattle.il_ast.specs.declared.program.InText.{InText}
use Rattle.il_ast.specs.declared.value.Callee.TheVariants.{Defined, SystemWrite, SystemExit}
use Rattle.vcode.specs.Prelude.{KeepsRuns}
use Rattle.headline.specs.Knot.{Setting, IsSetting, AllKept, KeepsBody, NativesPerform}
use Rattle.rv_isa.specs.declared.abi.TheConstants.{RETURN_ADDRESS, RESULT}
use Rattle.il_ast.specs.declared.operation.Class.TheVariants.{W}
use Rattle.rv_isa.specs.Prelude.{State, Exited, Stopped, runs, Comes, Fixed, stack_top, stack_bottom, argument_bytes, word_bytes, Words}
use Rattle.flat_code.specs.Flat.{Spots, AllShow, ShowsMemory, Clear, NoAccess, ThisByte, Bases, Entries, Shows, AreEntries}
use Rattle.abi_frames.specs.Performs.{GoodStack, Ready, passed}
use Rattle.std.specs.Int.{byte_at}
use Rattle.il_ast.specs.declared.value.Cell.{Cell}
use Rattle.il_ast.specs.declared.value.Cell.TheVariants.{Plain, Part, Blank}
use Rattle.elf_file.specs.declared.flags.Flags.TheVariants.{ReadWrite}
use Rattle.elf_file.specs.Conditions.{Executable, byte_in, flags_in, Stands}
use Rattle.il_ast.specs.declared.limits.TheConstants.{WORDS, WORD_BYTES}
use Rattle.il_ast.specs.declared.value.Callee.{Callee}
use Rattle.rv_machine.specs.Starts.{Starts}
use Rattle.headline.specs.Headline.{Executes}
use Rattle.il_ast.specs.declared.program.Target.{Target}
use Rattle.obj_link.specs.Prelude.{IsImage, data_start, write_address, exit_address, addresses_of, contents_of, FitsBelow, EveryCode, callee_address, IsProgram, IsThere}
use Rattle.il_types.specs.declared.checked.Checked.{Checked}

-- ---- the calls that a run makes in one program

-- calls of fewer turns go as these have it, and all others are out of turns
abbrev pub below : (turns : ℕ) → Callees → Callees
below n f call t room m = if nat_lt t n then f call t room m else Ended nothing Turns

-- the calls that a run of at most so many turns makes in the program: a call takes a turn, so none
-- nests deeper
abbrev pub calls_in : Program → (turns : ℕ) → Callees
calls_in p n = below n (callees p n)

-- ---- what the machine code of a program's functions owes, and that all calls are then kept

-- the body of a function of the program
abbrev pub body_of : Program → InText Func → Body
body_of p f callees i =
    body (record { func = f.item; globals = globals_of p f.text }) callees i.turns i.room i.args
    i.memory

-- Code that is a function's in its program: it has the function's classes, and in however many turns
-- it runs as the function's body does where calls go as the program's own do, but that it may spend
-- less, as where it needn't enter a call.
pub record IsCodeIn (p : Program) (f : InText Func) (c : Coded) : Type 0 where
  pub params : c.params ≡ classes_of f.item.params
  pub result : c.result ≡ f.item.result
  pub runs : (turns : ℕ) → KeepsRuns (calls_in p turns) turns (classes_of f.item.params) c.start
      (c.step (globals_of p f.text)) (body_of p f)

-- each function is kept at its address, where calls go as the program's own do
abbrev pub FunctionsKept : Setting → Program → Type 0
FunctionsKept c p =
    (turns k at : ℕ) (f : InText Func)
    → slice_get p.functions k ≡ Some f
    → c.entries (Defined k) ≡ Some at
    → KeepsBody c at (need f.item) turns (map (λ (x : Param). x.class) f.item.params) f.item.result
    (body_of p f) (calls_in p turns)

-- Where each function is kept if the calls that it makes are, all calls of the program are kept, in
-- however many turns, and so however deep they nest.
abbrev pub CallsAreKept : Type 0
CallsAreKept =
    (c : Setting) (p : Program) → IsSetting c → FunctionsKept c p → NativesPerform c → (turns : ℕ) →
    AllKept c (calls_in p turns)

-- ---- what the start code of an executable owes: it calls `main`, and exits with what that returns

-- from u the machine exits with the status n modulo 256, in at most so many instructions
pub record ExitsWith (most n : ℕ) (u : State) : Type 0 where
  pub steps : ℕ
  pub last : State
  pub few : steps ≤ most
  pub stopped : runs steps u ≡ Stopped (Exited (n % 256)) last
  pub output : last.output ≡ u.output

-- the machine comes from s to a call of `main`, with the program's start memory, and from every
-- return of that it exits with the result; both in at most 256 instructions
pub record CallsMain (c : Setting) (p : Program) (words : List (List ℕ)) (s : State) : Type 0 where
  pub at : ℕ
  pub is_main : c.entries (Defined p.main) ≡ Some at
  pub sp : ℕ
  pub stack : GoodStack c.world sp stack_room
  pub memory : Spots
  pub shows : ShowsMemory c.entries c.start (start_memory p words) memory
  pub clear : Clear c.world.bottom sp memory
  pub args : List ℕ
  pub args_show : AllShow c.entries c.start (main_call p words).args args
  pub steps : ℕ
  pub called : State
  pub comes : Comes s steps called
  pub output : called.output ≡ []
  pub ready : (turns : ℕ) → Ready c.world at sp (main_call p words).classes
      (record { turns = turns; room = stack_room; args = args; memory = memory }) called
  pub leaving : ℕ
  pub leaves : (u : State) (n : ℕ) → Fixed c.world.memory_map u →
      u.pc ≡ called.registers RETURN_ADDRESS → u.registers RESULT ≡ passed W n →
      ExitsWith leaving n u
  pub price : steps + leaving ≤ 256

-- ---- where an executable's functions and data stand, and what its file owes of the data

-- the address of each function and of each datum, and the range that has the data
pub record Places : Type 0 where
  pub entries : Entries
  pub objects : List ℕ
  pub low : ℕ
  pub high : ℕ

-- ---- the data, in the file

-- a blank cell may be any byte
abbrev pub CellStands : Entries → Bases → Option ℕ → Cell → Type 0
CellStands e p found (Plain b) = found ≡ Some b
CellStands e p found (Part v k) =
    (x : ℕ) × Shows e p v x × (x < 2 ^ 64) × (found ≡ Some (byte_at k x))
CellStands e p found Blank = Unit {0}

-- cells from an address upward
abbrev pub CellsStand : Entries → Bases → (ℕ → Option ℕ) → List Cell → ℕ → Type 0
CellsStand e p byte [] at = Unit {0}
CellsStand e p byte (c ∷ cells) at = CellStands e p (byte at) c × CellsStand e p byte cells (at + 1)

-- blocks at these addresses, in order, between low and high
abbrev pub BlocksStand : Entries → Bases → (ℕ → Option ℕ) → (low high : ℕ) → List (List Cell) →
    List ℕ → Type 0
BlocksStand e p byte low high [] [] = Unit {0}
BlocksStand e p byte low high [] (at ∷ places) = ⊥
BlocksStand e p byte low high (cells ∷ blocks) [] = ⊥
BlocksStand e p byte low high (cells ∷ blocks) (at ∷ places) =
    (low ≤ at) × (at + length cells ≤ high) × CellsStand e p byte cells at
    × BlocksStand e p byte (at + length cells) high blocks places

-- the data of the program stands in the executable, where it can be read and written, below the
-- stack
pub record DataStands (p : Program) (at : Places) (x : Executable) : Type 0 where
  pub positive : 0 < at.low
  pub below : at.high ≤ stack_bottom
  pub usable : (a : ℕ) → at.low ≤ a → a < at.high → flags_in x a ≡ Some ReadWrite
  pub objects : BlocksStand at.entries (λ b. slice_get at.objects b) (byte_in x) at.low at.high
      (map (object_cells p) p.objects) at.objects

-- ---- the blocks of the start, in memory: the data, the words, the argument list

abbrev pub word_places : (at : ℕ) → List (List ℕ) → List ℕ
word_places at [] = []
word_places at (w ∷ words) = at ∷ word_places (at + (length w + 1)) words

-- where the first word stands
abbrev pub first_word : List (List ℕ) → ℕ
first_word words = stack_top + 40 + 8 * length words

abbrev pub start_places : List ℕ → List (List ℕ) → List ℕ
start_places objects words =
    objects ++ (word_places (first_word words) words ++ (stack_top + 8) ∷ [])

-- what stays while the executable runs from s with these words
abbrev pub setting_of : Places → List (List ℕ) → State → Setting
setting_of at words s =
    record {
      world = record {
        memory_map = record { allows = s.allows; code = s.bytes };
        bottom = stack_bottom;
        top = stack_top;
      };
      entries = at.entries;
      start = λ b. slice_get (start_places at.objects words) b;
    }

-- at the start all bytes of the data and of the argument range are known
abbrev pub start_spots : Places → List (List ℕ) → State → Spots
start_spots at words s a =
    if (nat_le at.low a && nat_lt a at.high) || (nat_le stack_top a
    && nat_lt a (stack_top + length (argument_bytes words)))
    then ThisByte (s.bytes a)
    else NoAccess

-- ---- the theorem of the whole, from every start of an executable: what its file, its functions,
-- `write` and `exit`, and its start code owe.

-- the numbers that `main` is called with: none, or how many words there are and where their list
-- stands
abbrev pub main_numbers : List (List ℕ) → List Param → List ℕ
main_numbers words [] = []
main_numbers words (x ∷ xs) = length words ∷ (stack_top + 8) ∷ []

-- The start code comes from s to a call of `main`, having changed no byte of the data and of the
-- arguments, and from the return of that it exits with the result, both in at most 256
-- instructions.
pub record StartRuns (at : Places) (p : Program) (words : List (List ℕ)) (s : State) : Type 0 where
  pub main : ℕ
  pub is_main : at.entries (Defined p.main) ≡ Some main
  pub sp : ℕ
  pub stack : GoodStack (setting_of at words s).world sp stack_room
  pub steps : ℕ
  pub called : State
  pub comes : Comes s steps called
  pub output : called.output ≡ s.output
  pub ready : (turns : ℕ) → Ready (setting_of at words s).world main sp (main_call p words).classes
      (record {
        turns = turns;
        room = stack_room;
        args = main_numbers words (params_of (slice_get p.functions p.main));
        memory =
            start_spots at words s;
      }) called
  pub leaving : ℕ
  pub leaves : (u : State) (n : ℕ) → Fixed (setting_of at words s).world.memory_map u →
      u.pc ≡ called.registers RETURN_ADDRESS → u.registers RESULT ≡ passed W n →
      ExitsWith leaving n u
  pub price : steps + leaving ≤ 256

abbrev pub ExecutableRuns : Type 0
ExecutableRuns =
    (p : Program) (at : Places) (x : Executable) (words : List (List ℕ)) (s : State)
    → Starts x words s
    → length words ≤ WORDS
    → length (word_bytes words) ≤ WORD_BYTES
    → DataStands p at x
    → AreEntries at.entries
    → ((f : Callee) (a : ℕ) → at.entries f ≡ Some a → a % 4 ≡ 0)
    → FunctionsKept (setting_of at words s) p
    → NativesPerform (setting_of at words s)
    → StartRuns at p words s
    → Executes p words s

abbrev pub entries_of : Program → List Words → Entries
entries_of p codes (Defined k) = slice_get (addresses_of p codes).functions k
entries_of p codes SystemWrite = Some write_address
entries_of p codes SystemExit = Some exit_address

abbrev pub places_of : Program → List Words → Places
places_of p codes =
    record {
      entries = entries_of p codes;
      objects = (addresses_of p codes).objects;
      low = data_start (contents_of p codes);
      high = data_start (contents_of p codes) + length (contents_of p codes).data_bytes;
    }

abbrev pub PlacedNatives : Type 0
PlacedNatives =
    (p : Program) (codes : List Words) (x : Executable) (words : List (List ℕ)) (s : State)
    → IsImage (contents_of p codes)
    → Stands (contents_of p codes) x
    → Starts x words s
    → NativesPerform (setting_of (places_of p codes) words s)

-- the start code of a program with words for each function, whose data stands
abbrev pub PlacedStart : Type 0
PlacedStart =
    (p : Program) (codes : List Words) (x : Executable) (words : List (List ℕ)) (s : State)
    → IsImage (contents_of p codes)
    → Stands (contents_of p codes) x
    → Starts x words s
    → DataStands p (places_of p codes) x
    → length words ≤ WORDS
    → length (word_bytes words) ≤ WORD_BYTES
    → slice_get (addresses_of p codes).functions p.main ≡ Some
    (callee_address (addresses_of p codes) (Defined p.main))
    → callee_address (addresses_of p codes) (Defined p.main) < 2 ^ 31
    → callee_address (addresses_of p codes) (Defined p.main) % 4 ≡ 0
    → StartRuns (places_of p codes) p words s

-- all that names of a program mean is there, and so is its `main`
pub record NamesAreThere (p : Program) : Type 0 where
  pub targets : (t n : ℕ) (targets : List Target) (target : Target) →
      slice_get p.targets t ≡ Some targets → slice_get targets n ≡ Some target →
      IsThere (length p.functions) (length p.objects) target
  pub main : p.main < length p.functions

-- programs of texts are so
abbrev pub ProgramsHaveNames : Type 0
ProgramsHaveNames = (texts : List Checked) (p : Program) → IsProgram texts p → NamesAreThere p

-- what an executable of a program owes of its data and its addresses
pub record StandsWell (p : Program) (codes : List Words) (x : Executable) : Type 0 where
  pub data_bytes : DataStands p (places_of p codes) x
  pub entries : AreEntries (entries_of p codes)
  pub aligned : (f : Callee) (a : ℕ) → entries_of p codes f ≡ Some a → a % 4 ≡ 0

abbrev pub PlacedStands : Type 0
PlacedStands =
    (p : Program) (codes : List Words) (x : Executable)
    → NamesAreThere p
    → length codes ≡ length p.functions
    → EveryCode codes
    → FitsBelow p codes
    → IsImage (contents_of p codes)
    → Stands (contents_of p codes) x
    → StandsWell p codes x
