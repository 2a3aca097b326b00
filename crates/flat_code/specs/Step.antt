-- What a line or a jump of location code does on bytes: the same code as on blocks, with numbers
-- for values and bytes by address for memory. An access to a byte that is away is undefined, and so
-- is a read of one that isn't known; an operation on an unknown number gives one. The blocks that the
-- code makes stand one after another from `base` upward, each at a multiple of 16 bytes from there,
-- and none may be accessed after the return.
use Rattle.std.specs.Prelude.{ℕ, zero, suc, ◌+◌, ◌-◌, ◌*◌, ◌%◌, ◌^◌, Bool, true, false, ◌&&◌, ◌||◌, nat_eq, nat_lt, nat_le, if◌then◌else◌, List, [], ◌∷◌, map, slice_get, Option, Some, None, option_map, option_and_then}
use Rattle.std.specs.Int.{byte_at}
use Rattle.bits.specs.Words.{sign_extended}
use Rattle.il_ast.specs.declared.operation.Class.{Class}
use Rattle.il_ast.specs.declared.operation.Class.TheVariants.{W, L}
use Rattle.il_ast.specs.declared.value.End.TheVariants.{Halt as Halted, Undefined, Turns}
use Rattle.il_ast.specs.Prelude.{byte_count, holds, truth, stored_class, round_16, Spent, nothing, one_turn, both, Next, On, Over, Event, Does, Calls}
use Rattle.rv_isa.specs.declared.instruction.RegOp.TheVariants.{Add}
use Rattle.rv_isa.specs.Prelude.{reg_value, regw_value, load_size, load_value}
use Rattle.vcode.specs.declared.place.Location.{Location}
use Rattle.vcode.specs.declared.place.Operand.{Operand}
use Rattle.vcode.specs.declared.place.ReturnValue.{ReturnValue}
use Rattle.vcode.specs.declared.place.Operand.TheVariants.{At, Number, Name}
use Rattle.vcode.specs.declared.place.Destination.{Destination}
use Rattle.vcode.specs.declared.place.Argument.{Argument}
use Rattle.vcode.specs.declared.place.Extension.{Extension}
use Rattle.vcode.specs.declared.place.Extension.TheVariants.{Claimed}
use Rattle.vcode.specs.declared.place.Address.{Address}
use Rattle.vcode.specs.declared.line.Operation.{Operation}
use Rattle.vcode.specs.declared.line.Operation.TheVariants.{Reg, RegW, Compare}
use Rattle.vcode.specs.declared.line.Line.{Line}
use Rattle.vcode.specs.declared.line.Line.TheVariants.{Tick, Set, Operate, Load, Store, Alloc, Blit, Call}
use Rattle.vcode.specs.declared.line.Comparison.{Comparison}
use Rattle.vcode.specs.declared.line.Jump.{Jump}
use Rattle.vcode.specs.declared.line.Jump.TheVariants.{Goto, Branch, Return, Halt}
use Rattle.vcode.specs.declared.code.Block.{Block}
use Rattle.vcode.specs.declared.code.Code.{Code}
use Rattle.vcode.specs.Prelude.{distance, is_extended, same_location, is_callers, area, weighs}
use Rattle.flat_code.specs.Flat.{Spot, NoAccess, AnyByte, ThisByte, Spots, FlatGiven, FlatAsked, FlatOutcome, FlatReturned, FlatEnded}

-- ---- bytes

-- the number of n known bytes from an address upward, the lowest first
abbrev pub read_spot : Spot → Option ℕ → Option ℕ
read_spot NoAccess rest = None
read_spot AnyByte rest = None
read_spot (ThisByte b) rest = option_map (λ n. b + 256 * n) rest

unfoldable pub known_number : Spots → (at n : ℕ) → Option ℕ
known_number f at zero = Some 0
known_number f at (suc n) = read_spot (f at) (known_number f (at + 1) n)

abbrev pub is_there : Spot → Bool
is_there NoAccess = false
is_there AnyByte = true
is_there (ThisByte b) = true

-- n bytes from an address upward may be accessed
unfoldable pub all_there : Spots → (at n : ℕ) → Bool
all_there f at zero = true
all_there f at (suc n) = is_there (f at) && all_there f (at + 1) n

-- is x one of n addresses from `at` upward
abbrev pub is_in : (at n x : ℕ) → Bool
is_in at n x = nat_le at x && nat_lt x (at + n)

-- with the lowest n bytes of v from an address upward, if they may be accessed
abbrev pub with_number : Spots → (at n v : ℕ) → Spots
with_number f at n v x = if is_in at n x then ThisByte (byte_at (x - at) v) else f x

abbrev pub stored : Spots → (at n v : ℕ) → Option Spots
stored f at n v = if all_there f at n then Some (with_number f at n v) else None

-- two ranges of n addresses have none in common, or are the same
abbrev pub apart_or_same : (n from to : ℕ) → Bool
apart_or_same n from to = nat_eq from to || (nat_le (from + n) to || nat_le (to + n) from)

abbrev pub with_copy : Spots → (n from to : ℕ) → Spots
with_copy f n from to x = if is_in to n x then f (from + (x - to)) else f x

-- n bytes, known or not; where n is 0 nothing is done, whatever the addresses
unfoldable pub copied : Spots → (n from to : ℕ) → Option Spots
copied f zero from to = Some f
copied f (suc n) from to =
    if apart_or_same (suc n) from to && (all_there f from (suc n) && all_there f to (suc n))
    then Some (with_copy f (suc n) from to) else None

-- n bytes that may be accessed and hold anything
abbrev pub opened : Spots → (at n : ℕ) → Spots
opened f at n x = if is_in at n x then AnyByte else f x

-- n bytes that may not be accessed
abbrev pub closed : Spots → (at n : ℕ) → Spots
closed f at n x = if is_in at n x then NoAccess else f x

-- ---- numbers

-- the number of each place, none where it is unknown
abbrev pub Numbers : Type 0
Numbers = Location → Option ℕ

abbrev pub put : Location → Option ℕ → Numbers → Numbers
put p o numbers q = if same_location q p then o else numbers q

-- after a call
abbrev pub kept : Numbers → Numbers
kept numbers p = if is_callers p then None else numbers p

-- how a number of this class stands in a place: a word sign-extended to 64 bits
abbrev pub held : Class → ℕ → ℕ
held W n = sign_extended (n % 2 ^ 32)
held L n = n

-- what a place of this class takes of a number
abbrev pub taken : Class → ℕ → ℕ
taken W n = n % 2 ^ 32
taken L n = n

-- what is passed of a number to a place of class k; a word that is claimed to stand extended has to
abbrev pub passed : Extension → Class → ℕ → Option ℕ
passed Claimed W n = if is_extended n then Some (taken W n) else None
passed t k n = Some (taken k n)

unfoldable pub computed : Operation → (a b : ℕ) → ℕ
computed (Reg op) a b = reg_value op a b
computed (RegW op) a b = regw_value op a b
computed (Compare on k) a b = truth (holds on k (taken k a) (taken k b))

-- ---- states

-- the block and the line in it that are next, what places hold, the bytes, how much of the area for
-- blocks is used, and what was spent
pub record FlatState : Type 0 where
  pub block : ℕ
  pub next : ℕ
  pub numbers : Numbers
  pub memory : Spots
  pub used : ℕ
  pub spent : Spent

-- arguments in the places of parameters
abbrev pub bound : Numbers → List (Destination Location) → List ℕ → Numbers
bound numbers [] xs = numbers
bound numbers (d ∷ ds) [] = numbers
bound numbers (d ∷ ds) (x ∷ xs) = bound (put d.place (Some (held d.class x)) numbers) ds xs

abbrev pub flat_begin : Code Location → (base : ℕ) → FlatGiven → FlatState
flat_begin f base j =
    record {
      block = 0;
      next = 0;
      numbers = bound (λ p. None) f.params j.args;
      memory = j.memory;
      used = 0;
      spent = nothing;
    }

-- ---- operands

abbrev pub number_of : List ℕ → Numbers → Operand Location → Option ℕ
number_of addresses numbers (At p) = numbers p
number_of addresses numbers (Number n) = Some (n % 2 ^ 64)
number_of addresses numbers (Name g) = slice_get addresses g

-- an operand in a place of class k
abbrev pub read : List ℕ → Numbers → Class → Operand Location → Option ℕ
read addresses numbers k a = option_map (taken k) (number_of addresses numbers a)

abbrev pub read_argument : List ℕ → Numbers → Argument Location → Option ℕ
read_argument addresses numbers a =
    option_and_then (passed a.extension a.class) (number_of addresses numbers a.value)

-- what is returned as a result of class k
abbrev pub read_result : List ℕ → Numbers → Class → ReturnValue Location → Option ℕ
read_result addresses numbers k a =
    option_and_then (passed a.extension k) (number_of addresses numbers a.value)

abbrev pub read_all : List ℕ → Numbers → List (Argument Location) → Option (List ℕ)
read_all addresses numbers [] = Some []
read_all addresses numbers (a ∷ args) =
    option_and_then (λ x. option_map (λ xs. x ∷ xs) (read_all addresses numbers args))
    (read_argument addresses numbers a)

-- what an operation gives for what two operands give
abbrev pub operated : Operation → (a b : Option ℕ) → Option ℕ
operated op a b = option_and_then (λ x. option_map (λ y. computed op x y) b) a

-- the base as it is, or its sum with a distance that isn't 0
abbrev pub address_of : List ℕ → Numbers → Address Location → Option ℕ
address_of addresses numbers at =
    if nat_eq (distance at) 0 then number_of addresses numbers at.base
    else operated (Reg Add) (number_of addresses numbers at.base)
    (number_of addresses numbers (Number (distance at)))

-- ---- lines

abbrev pub FlatEvent : Type 0
FlatEvent = Event FlatState FlatAsked FlatOutcome

abbrev pub fails : FlatState → FlatEvent
fails s = Does (Over (FlatEnded s.spent Undefined))

-- on to the next line
abbrev pub goes_on : FlatState → FlatEvent
goes_on s = Does (On (record s { next = s.next + 1 }))

abbrev pub sets : FlatState → Location → Option ℕ → FlatEvent
sets s p None = fails s
sets s p (Some x) = goes_on (record s { numbers = put p (Some x) s.numbers })

abbrev pub takes : FlatState → Location → Option ℕ → FlatEvent
takes s p o = goes_on (record s { numbers = put p o s.numbers })

abbrev pub changes : FlatState → Option Spots → FlatEvent
changes s None = fails s
changes s (Some f) = goes_on (record s { memory = f })

abbrev pub ticks : FlatGiven → FlatState → Bool → ℕ → FlatEvent
ticks j s false w = goes_on (record s { spent = both s.spent (weighs w) })
ticks j s true w =
    if nat_lt s.spent.turns j.turns then goes_on (record s { spent = both s.spent (one_turn w) })
    else Does (Over (FlatEnded s.spent Turns))

-- ---- calls

-- a result that is wanted is written, and one that is missing is undefined
abbrev pub receives : FlatState → Option (Destination Location) → Option ℕ →
    Next FlatState FlatOutcome
receives s None x = On (record s { next = s.next + 1 })
receives s (Some d) None = Over (FlatEnded s.spent Undefined)
receives s (Some d) (Some x) =
    On (record s { next = s.next + 1; numbers = put d.place (Some (held d.class x)) s.numbers })

abbrev pub resumes : FlatState → Option (Destination Location) → FlatOutcome →
    Next FlatState FlatOutcome
resumes s to (FlatReturned t x f) =
    receives (record s { numbers = kept s.numbers; memory = f; spent = both s.spent t }) to x
resumes s to (FlatEnded t e) = Over (FlatEnded (both s.spent t) e)

abbrev pub calls : FlatGiven → FlatState → Option (Destination Location) →
    List (Argument Location) → Option ℕ → Option (List ℕ) → FlatEvent
calls j s to args (Some at) (Some xs) =
    Calls
    (record {
      at = at;
      classes = map (λ a. a.class) args;
      wants = option_map (λ d. d.class) to;
      given = record {
        turns = j.turns - s.spent.turns;
        room = j.room;
        args = xs;
        memory = s.memory;
      };
    })
    (resumes s to)
calls j s to args at xs = fails s

-- ---- a line

-- the address of a block that was made, where a place takes it
abbrev pub made_in : Option Location → ℕ → Numbers → Numbers
made_in None x numbers = numbers
made_in (Some p) x numbers = put p (Some x) numbers

unfoldable pub flat_line : List ℕ → (base : ℕ) → FlatGiven → FlatState → Line Location → FlatEvent
flat_line addresses base j s (Tick turn w) = ticks j s turn w
flat_line addresses base j s (Set to a) = takes s to (number_of addresses s.numbers a)
flat_line addresses base j s (Operate to op a b) =
    takes s to (operated op (number_of addresses s.numbers a) (number_of addresses s.numbers b))
flat_line addresses base j s (Load to op at) =
    sets s to
    (option_and_then (λ x. option_map (load_value op) (known_number s.memory x (load_size op)))
    (address_of addresses s.numbers at))
flat_line addresses base j s (Store size a at) =
    changes s
    (option_and_then
    (λ v. option_and_then (λ x. stored s.memory x (byte_count size) v)
    (address_of addresses s.numbers at))
    (read addresses s.numbers (stored_class size) a))
flat_line addresses base j s (Alloc to size) =
    goes_on
    (record s {
      numbers = made_in to (base + s.used) s.numbers;
      memory = opened s.memory (base + s.used) size;
      used = s.used + round_16 size;
    })
flat_line addresses base j s (Blit from to count) =
    changes s
    (option_and_then (λ x. option_and_then (λ y. copied s.memory count x y)
    (number_of addresses s.numbers to)) (number_of addresses s.numbers from))
flat_line addresses base j s (Call to callee args) =
    calls j s to args (number_of addresses s.numbers callee) (read_all addresses s.numbers args)

-- ---- jumps

abbrev pub enters : FlatState → ℕ → FlatEvent
enters s k = Does (On (record s { block = k; next = 0 }))

-- what a comparison gives, 1 where it holds
abbrev pub compared : List ℕ → FlatState → Comparison Location → Option ℕ
compared addresses s c =
    option_and_then (λ x. option_map (λ y. computed (Compare c.condition c.class) x y)
    (number_of addresses s.numbers c.right))
    (number_of addresses s.numbers c.left)

abbrev pub branches : FlatState → (met otherwise : ℕ) → Option ℕ → FlatEvent
branches s met otherwise None = fails s
branches s met otherwise (Some n) = enters s (if nat_eq n 0 then otherwise else met)

-- the area for blocks may not be accessed any more
abbrev pub leaves : Code Location → (base : ℕ) → FlatState → Option ℕ → FlatEvent
leaves f base s x = Does (Over (FlatReturned s.spent x (closed s.memory base (area f))))

abbrev pub returns : Code Location → (base : ℕ) → FlatState → Option ℕ → FlatEvent
returns f base s None = fails s
returns f base s (Some x) = leaves f base s (Some x)

abbrev pub returns_as : Code Location → List ℕ → (base : ℕ) → FlatState → Option Class →
    ReturnValue Location → FlatEvent
returns_as f addresses base s None a = fails s
returns_as f addresses base s (Some k) a = returns f base s (read_result addresses s.numbers k a)

unfoldable pub flat_jump : Code Location → List ℕ → (base : ℕ) → FlatState → Jump Location →
    FlatEvent
flat_jump f addresses base s (Goto k) = enters s k
flat_jump f addresses base s (Branch on met otherwise) =
    branches s met otherwise (compared addresses s on)
flat_jump f addresses base s (Return None) = leaves f base s None
flat_jump f addresses base s (Return (Some a)) = returns_as f addresses base s f.result a
flat_jump f addresses base s Halt = Does (Over (FlatEnded s.spent Halted))

-- ---- a step

abbrev pub block_step : Code Location → List ℕ → (base : ℕ) → FlatGiven → FlatState →
    Block Location → Option (Line Location) → FlatEvent
block_step f addresses base j s b (Some l) = flat_line addresses base j s l
block_step f addresses base j s b None = flat_jump f addresses base s b.jump

abbrev pub step_in : Code Location → List ℕ → (base : ℕ) → FlatGiven → FlatState →
    Option (Block Location) → FlatEvent
step_in f addresses base j s None = fails s
step_in f addresses base j s (Some b) = block_step f addresses base j s b (slice_get b.lines s.next)

-- the line that is next, or the jump where none is left
unfoldable pub flat_step : Code Location → List ℕ → (base : ℕ) → FlatGiven → FlatState → FlatEvent
flat_step f addresses base j s = step_in f addresses base j s (slice_get f.blocks s.block)
