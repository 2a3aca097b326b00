-- A call that is done in place: the block is cut at the call; lines bring the arguments to the
-- registers of the candidate's parameters; the candidate's blocks follow at other registers; where it returns,
-- a line takes its result, and the rest of the block goes on.
use Rattle.std.specs.Prelude.{ℕ, ◌+◌, map, option_map, ◌≡◌, ◌<◌, ◌≤◌, Bool, true, false, ◌&&◌, ◌||◌, List, [], ◌∷◌, IsTrue, ◌++◌, length, take, drop, slice_get, slice_set, Option, Some}
use Rattle.vcode.specs.declared.place.Operand.{Operand}
use Rattle.vcode.specs.declared.place.Operand.TheVariants.{At, Number, Name}
use Rattle.vcode.specs.declared.place.Destination.{Destination}
use Rattle.vcode.specs.declared.line.Line.{Line}
use Rattle.vcode.specs.declared.line.Line.TheVariants.{Tick, Set, Operate, Load, Store, Alloc, Blit, Call}
use Rattle.vcode.specs.declared.line.Jump.{Jump}
use Rattle.vcode.specs.declared.line.Jump.TheVariants.{Goto, Branch, Return, Halt}
use Rattle.vcode.specs.Prelude.{with_base, with_argument, with_comparison, classes_in, virtual, begin, step, GoesSo, HasRoom, keeps_places, is_below, KeepsIn}
use Rattle.std.specs.List.{list_all, list_any}
use Rattle.il_ast.specs.declared.value.Callee.{Callee}
use Rattle.il_ast.specs.declared.value.Value.{Value}
use Rattle.il_ast.specs.Prelude.{Memory, Call as Calling, Outcome, Callees, one_call, after, call_fits, Logged, Given, Log, AreArgs, same_classes, result_fits}
use Rattle.vcode.specs.declared.code.Block.{Block}
use Rattle.vcode.specs.declared.code.Code.{Code}
use Rattle.il_ast.specs.declared.operation.Class.{Class}
use Rattle.il_ast.specs.declared.operation.Class.TheVariants.{W, L}
use Rattle.rv_isa.specs.declared.instruction.RegWOp.TheVariants.{Addw}
use Rattle.vcode.specs.declared.place.Argument.{Argument}
use Rattle.vcode.specs.declared.place.Extension.{Extension}
use Rattle.vcode.specs.declared.place.Extension.TheVariants.{Made, Claimed}
use Rattle.vcode.specs.declared.line.Operation.TheVariants.{RegW}
use Rattle.il_ast.specs.declared.value.Value.TheVariants.{Function}
use Rattle.vcode.specs.declared.function.VFunc.{VFunc}
use Rattle.inlining.specs.declared.blocks.CallSite.{CallSite}

-- ---- a function's code at other registers and blocks: where a call of it is done in place

-- the same register, so many further
abbrev pub moved : (base : ℕ) → Operand ℕ → Operand ℕ
moved base (At r) = At (r + base)
moved base (Number n) = Number n
moved base (Name g) = Name g

-- a destination so many registers further
abbrev pub moved_destination : (base : ℕ) → Destination ℕ → Destination ℕ
moved_destination base d = record { place = d.place + base; class = d.class }

-- a line with all its registers so many further; a candidate makes no blocks
abbrev pub moved_line : (base : ℕ) → Line ℕ → Line ℕ
moved_line base (Tick turn w) = Tick turn w
moved_line base (Set to a) = Set (to + base) (moved base a)
moved_line base (Operate to op a b) = Operate (to + base) op (moved base a) (moved base b)
moved_line base (Load to op at) = Load (to + base) op (with_base (moved base) at)
moved_line base (Store size a at) = Store size (moved base a) (with_base (moved base) at)
moved_line base (Alloc to size) = Alloc to size
moved_line base (Blit from to count) = Blit (moved base from) (moved base to) count
moved_line base (Call to callee args) =
    Call (option_map (moved_destination base) to) (moved base callee)
    (map (with_argument (moved base)) args)

-- a jump, where the first block is `first`; a return goes on behind the call
abbrev pub moved_jump : (first behind base : ℕ) → Jump ℕ → Jump ℕ
moved_jump first behind base (Goto k) = Goto (k + first)
moved_jump first behind base (Branch on met otherwise) =
    Branch (with_comparison (moved base) on) (met + first) (otherwise + first)
moved_jump first behind base (Return a) = Goto behind
moved_jump first behind base Halt = Halt

-- ---- candidates: functions whose calls are done in place, as they make no blocks of memory; and what it
-- means that calls of a function go as a candidate's code.
-- ---- candidates

abbrev pub begins_turn : Line ℕ → Bool
begins_turn (Tick true w) = true
begins_turn l = false

-- a line that makes no block of memory, and no call where no turn began before it
abbrev pub is_calm : (turned : Bool) → Line ℕ → Bool
is_calm turned (Call to callee args) = turned
is_calm turned (Alloc to size) = false
is_calm turned l = true

-- lines that make no block of memory, and a turn begins before each of their calls
abbrev pub calm_behind : (turned : Bool) → List (Line ℕ) → Bool
calm_behind turned [] = true
calm_behind turned (l ∷ ls) = is_calm turned l && calm_behind (turned || begins_turn l) ls

-- it makes no block of memory, and a turn begins before each call in its block
abbrev pub is_candidate : Code ℕ → Bool
is_candidate f = list_all (λ (b : Block ℕ). calm_behind false b.lines) f.blocks

-- ---- how calls of them go

-- each call of the list goes so in this room, and in every larger one
abbrev pub AllGoFrom : Callees → Log → Type 0
AllGoFrom callees [] = Unit {0}
AllGoFrom callees (e ∷ log) =
    ((room : ℕ) → e.asked.room ≤ room →
    callees e.asked.call e.asked.turns room e.asked.memory ≡ e.went)
    × AllGoFrom callees log

-- each call of the list is made in fewer turns than were given, finds the room that was given, and
-- neither becomes undefined nor runs out of stack
abbrev pub AllLater : Given → Log → Type 0
AllLater i [] = Unit {0}
AllLater i (e ∷ log) =
    (e.asked.turns < i.turns) × (e.asked.room ≡ i.room) × HasRoom e.went × AllLater i log

-- what the candidate is given by a call, with so much room for its own calls
abbrev pub given_by : Calling → (turns room : ℕ) → Memory → Given
given_by call t room m = record { turns = t; room = room; args = call.args; memory = m }

-- the call is entered, and goes as the candidate's code runs with some of the room; the candidate's own calls
-- go so in a larger room too; the code may spend less
pub record GoesAs (callees : Callees) (globals : List Value) (candidate : Code ℕ) (call : Calling)
    (t room : ℕ) (m : Memory) : Type 0 where
  pub meant : Outcome
  pub is : callees call t room m ≡ after one_call meant
  pub went : Outcome
  pub goes : GoesSo went meant
  pub below : ℕ
  pub fits : below ≤ room
  pub log : Log
  pub calls : AllGoFrom callees log
  pub steps : ℕ
  pub runs : Logged (step virtual globals candidate (given_by call t below m)) steps
      (begin virtual candidate (given_by call t below m)) log went

-- so goes every call of f that passes and wants what the candidate takes and gives, in less than so many
-- turns, where it doesn't become undefined and the stack has room for it
abbrev pub IsCandidateOf : Callees → (turns : ℕ) → List Value → Code ℕ → Callee → Type 0
IsCandidateOf callees turns globals candidate f =
    (call : Calling) (t room : ℕ) (m : Memory)
    → call.callee ≡ f
    → t < turns
    → call_fits call (classes_in candidate.params) candidate.result ≡ true
    → AreArgs (classes_in candidate.params) call.args
    → HasRoom (callees call t room m)
    → GoesAs callees globals candidate call t room m

-- ---- what is passed

-- the register takes what is passed of a value: of a word its low half, sign-extended where that is
-- still to be made
abbrev pub brought : (to : ℕ) → Class → Extension → Operand ℕ → Line ℕ
brought to W Made a = Operate to (RegW Addw) a (Number 0)
brought to W Claimed a = Set to a
brought to L e a = Set to a

-- the parameters take the arguments, in order
abbrev pub arguments_brought : (base : ℕ) → List (Destination ℕ) → List (Argument ℕ) → List (Line ℕ)
arguments_brought base [] args = []
arguments_brought base (d ∷ ds) [] = []
arguments_brought base (d ∷ ds) (a ∷ args) =
    brought (d.place + base) a.class a.extension a.value ∷ arguments_brought base ds args

-- what is wanted of a result takes it where the candidate returns
abbrev pub result_brought : (base : ℕ) → Option Class → Option (Destination ℕ) → Jump ℕ → List (Line ℕ)
result_brought base (Some k) (Some d) (Return (Some a)) =
    brought d.place k a.extension (moved base a.value) ∷ []
result_brought base result to jump = []

-- ---- the blocks

abbrev pub candidate_block : (first behind base : ℕ) → Option Class → Option (Destination ℕ) → Block ℕ →
    Block ℕ
candidate_block first behind base result to b =
    record {
      lines = map (moved_line base) b.lines ++ result_brought base result to b.jump;
      jump = moved_jump first behind base b.jump;
    }

-- a call in a block, by name
pub record Site : Type 0 where
  pub block : Block ℕ
  pub to : Option (Destination ℕ)
  pub name : ℕ
  pub args : List (Argument ℕ)

-- the block up to the call, line j, and the arguments brought
abbrev pub up_to_call : (first base j : ℕ) → List (Destination ℕ) → Site → Block ℕ
up_to_call first base j params s =
    record {
      lines = take j s.block.lines ++ arguments_brought base params s.args;
      jump = Goto first;
    }

abbrev pub behind_call : (j : ℕ) → Site → Block ℕ
behind_call j s = record { lines = drop (j + 1) s.block.lines; jump = s.block.jump }

-- with block k cut at line j, the rest of it behind all blocks, and the candidate's blocks behind that
abbrev pub blocks_in_place : (blocks : List (Block ℕ)) → (candidate : Code ℕ) → (base k j : ℕ) → Site →
    List (Block ℕ)
blocks_in_place blocks candidate base k j s =
    let behind = length blocks in
    let first = behind + 1 in
    slice_set blocks k (up_to_call first base j candidate.params s)
    ++ behind_call j s ∷ map (candidate_block first behind base candidate.result s.to) candidate.blocks

abbrev pub in_place : (v candidate : Code ℕ) → (base k j : ℕ) → Site → Code ℕ
in_place v candidate base k j s =
    record {
      result = v.result;
      params = v.params;
      blocks = blocks_in_place v.blocks candidate base k j s;
    }

-- ---- where that may be done

-- line j of block k is a call that passes what the candidate takes, and wants what it gives; a turn
-- begins before it in the block; the code's registers are below `base`
pub record IsSite (v candidate : Code ℕ) (base k j : ℕ) (s : Site) : Type 0 where
  pub block : slice_get v.blocks k ≡ Some s.block
  pub call : slice_get s.block.lines j ≡ Some (Call s.to (Name s.name) s.args)
  pub turn : IsTrue (list_any begins_turn (take j s.block.lines))
  pub classes : IsTrue (same_classes (map (λ (a : Argument ℕ). a.class) s.args) (classes_in candidate.params))
  pub result : IsTrue (result_fits (option_map (λ (d : Destination ℕ). d.class) s.to) candidate.result)
  pub known : IsTrue (keeps_places (is_below base) v)
  pub calm : IsTrue (is_candidate candidate)

-- ---- functions in which calls of candidates are done in place
abbrev pub site_of : CallSite → Site
site_of s = record { block = s.block.now; to = s.to; name = s.name; args = s.args.now }

-- ---- candidates

-- for each global name, the candidate that calls of it go as, if it has one
abbrev pub Candidates : Type 0
Candidates = List (Option VFunc)

-- the name is a function's, whose calls go as the candidate's code
pub record IsNamed (callees : Callees) (turns : ℕ) (globals : List Value) (candidate : VFunc) (g : ℕ) :
    Type 0 where
  pub callee : Callee
  pub is : slice_get globals g ≡ Some (Function callee)
  pub goes : IsCandidateOf callees turns globals candidate.code callee

abbrev pub AreCandidates : Callees → (turns : ℕ) → List Value → Candidates → Type 0
AreCandidates callees turns globals candidates =
    (g : ℕ) (candidate : VFunc) → slice_get candidates g ≡ Some (Some candidate) →
    IsNamed callees turns globals candidate g

-- ---- code with calls in place

-- the first code, and what it becomes, with so many registers, by calls in place one after another
pub data Grows (candidates : Candidates) (v : Code ℕ) (registers : ℕ) : Code ℕ → ℕ → Type 0 where
  AsItWas : Grows candidates v registers v registers
  OneMore : {w : Code ℕ} {base k j : ℕ} {s : Site} {candidate : VFunc} →
      Grows candidates v registers w base →
      slice_get candidates s.name ≡ Some (Some candidate) →
      IsSite w candidate.code base k j s →
      Grows candidates v registers (in_place w candidate.code base k j s) (base + candidate.registers)

-- the second code takes and gives what the first does, and runs as it where the candidates are candidates
pub record KeepsCalls (candidates : Candidates) (v w : Code ℕ) : Type 0 where
  pub params : classes_in w.params ≡ classes_in v.params
  pub result : w.result ≡ v.result
  pub runs : (callees : Callees) (turns : ℕ) (globals : List Value) →
      AreCandidates callees turns globals candidates →
      KeepsIn callees turns (classes_in v.params) (begin virtual v) (step virtual globals v)
      (begin virtual w) (step virtual globals w)
