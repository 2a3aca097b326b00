-- What a line or a jump of the code does: one step into the next state, an end, or a call, for both
-- kinds of places. A tick begins a turn of the source where it says so; no turn begins where none
-- is left. Words are read by their low 32 bits. An operation that isn't defined, or that reads an
-- unknown place, makes its place unknown, as `Set` of an unknown place does: so it may be done before
-- it is known that it is wanted. All else that reads an unknown place is undefined.
use Rattle.std.specs.Prelude.{ℕ, ◌+◌, ◌-◌, ◌%◌, ◌^◌, Bool, true, false, nat_eq, nat_lt, if◌then◌else◌, List, [], ◌∷◌, ◌++◌, map, length, slice_get, Option, Some, None, option_map, option_and_then}
use Rattle.il_ast.specs.declared.operation.Class.{Class}
use Rattle.il_ast.specs.declared.value.Value.{Value}
use Rattle.il_ast.specs.declared.value.Value.TheVariants.{Integer, Pointer, Function}
use Rattle.il_ast.specs.declared.value.End.TheVariants.{Halt as Halted, Undefined, Turns}
use Rattle.il_ast.specs.Prelude.{in_place, byte_count, Memory, store, copy, fresh, free_all, stored_class, Spent, nothing, one_turn, both, Outcome, Returned, Ended, Next, On, Over, Event, Does, Calls, Asked, Given}
use Rattle.vcode.specs.Types.{Operand, ReturnValue, At, Number, Name, Destination, Argument, Address, Line, Tick, Set, Operate, Load, Store, Alloc, Blit, Call, Operation, Reg, Compare, Comparison, Jump, Goto, Branch, Return, Halt, Block, Code}
use Rattle.rv_isa.specs.declared.instruction.RegOp.TheVariants.{Add}
use Rattle.vcode.specs.Addresses.{distance}
use Rattle.vcode.specs.Operations.{held, passed, operate, loaded}
use Rattle.vcode.specs.Places.{Places, Values, unknown, put, assign, kept}

-- the block and the line in it that are next, what places hold, the memory, the blocks that `alloc`
-- made, and what was spent
pub record State (P : Type 0) : Type 0 where
  pub block : ℕ
  pub next : ℕ
  pub values : Values P
  pub memory : Memory
  pub owned : List ℕ
  pub spent : Spent

-- ---- the start

-- arguments in the places of parameters
abbrev pub bound : {P : Type 0} → Places P → Values P → List (Destination P) → List Value → Values P
bound c values [] vs = values
bound c values (d ∷ ds) [] = values
bound c values (d ∷ ds) (v ∷ vs) = bound c (put c d.place (held d.class v) values) ds vs

abbrev pub begin : {P : Type 0} → Places P → Code P → Given → State P
begin c f i =
    record {
      block = 0;
      next = 0;
      values = bound c unknown f.params i.args;
      memory = i.memory;
      owned = [];
      spent = nothing;
    }

-- ---- operands

abbrev pub value_of : {P : Type 0} → List Value → Values P → Operand P → Option Value
value_of globals values (At p) = values p
value_of globals values (Number n) = Some (Integer (n % 2 ^ 64))
value_of globals values (Name g) = slice_get globals g

-- an operand in a place of class k
abbrev pub read : {P : Type 0} → List Value → Values P → Class → Operand P → Option Value
read globals values k a = option_and_then (in_place k) (value_of globals values a)

abbrev pub read_argument : {P : Type 0} → List Value → Values P → Argument P → Option Value
read_argument globals values a =
    option_and_then (passed a.extension a.class) (value_of globals values a.value)

-- what is returned as a result of class k
abbrev pub read_result : {P : Type 0} → List Value → Values P → Class → ReturnValue P → Option Value
read_result globals values k a =
    option_and_then (passed a.extension k) (value_of globals values a.value)

abbrev pub read_all : {P : Type 0} → List Value → Values P → List (Argument P) → Option (List Value)
read_all globals values [] = Some []
read_all globals values (a ∷ args) =
    option_and_then (λ v. option_map (λ vs. v ∷ vs) (read_all globals values args))
    (read_argument globals values a)

-- what an operation gives for what two operands give
abbrev pub operated : Memory → Operation → (a b : Option Value) → Option Value
operated m op a b = option_and_then (λ u. option_and_then (λ v. operate m op u v) b) a

-- the base as it is, or its sum with a distance that isn't 0
abbrev pub address_of : {P : Type 0} → List Value → Memory → Values P → Address P → Option Value
address_of globals m values at =
    if nat_eq (distance at) 0 then value_of globals values at.base
    else operated m (Reg Add) (value_of globals values at.base)
    (value_of globals values (Number (distance at)))

-- ---- lines

abbrev pub fails : {P : Type 0} → State P → Event (State P) Asked Outcome
fails s = Does (Over (Ended s.spent Undefined))

-- on to the next line
abbrev pub goes_on : {P : Type 0} → State P → Event (State P) Asked Outcome
goes_on s = Does (On (record s { next = s.next + 1 }))

abbrev pub sets : {P : Type 0} → Places P → State P → P → Option Value →
    Event (State P) Asked Outcome
sets c s p None = fails s
sets c s p (Some v) = goes_on (record s { values = put c p v s.values })

abbrev pub takes : {P : Type 0} → Places P → State P → P → Option Value →
    Event (State P) Asked Outcome
takes c s p o = goes_on (record s { values = assign c p o s.values })

abbrev pub changes : {P : Type 0} → State P → Option Memory → Event (State P) Asked Outcome
changes s None = fails s
changes s (Some m) = goes_on (record s { memory = m })

abbrev pub weighs : ℕ → Spent
weighs w = record { turns = 0; weight = w; calls = 0; output = [] }

abbrev pub ticks : {P : Type 0} → Given → State P → Bool → ℕ → Event (State P) Asked Outcome
ticks i s false w = goes_on (record s { spent = both s.spent (weighs w) })
ticks i s true w =
    if nat_lt s.spent.turns i.turns then goes_on (record s { spent = both s.spent (one_turn w) })
    else Does (Over (Ended s.spent Turns))

-- ---- calls

-- a result that is wanted is written, and one that is missing is undefined
abbrev pub receives : {P : Type 0} → Places P → State P → Option (Destination P) → Option Value →
    Next (State P) Outcome
receives c s None v = On (record s { next = s.next + 1 })
receives c s (Some d) None = Over (Ended s.spent Undefined)
receives c s (Some d) (Some v) =
    On (record s { next = s.next + 1; values = put c d.place (held d.class v) s.values })

abbrev pub resumes : {P : Type 0} → Places P → State P → Option (Destination P) → Outcome →
    Next (State P) Outcome
resumes c s to (Returned t v m) =
    receives c (record s { values = kept c s.values; memory = m; spent = both s.spent t }) to v
resumes c s to (Ended t e) = Over (Ended (both s.spent t) e)

abbrev pub calls : {P : Type 0} → Places P → Given → State P → Option (Destination P) →
    List (Argument P) → Option Value → Option (List Value) → Event (State P) Asked Outcome
calls c i s to args (Some (Function f)) (Some vs) =
    Calls
    (record {
      call = record {
        callee = f;
        classes = map (λ a. a.class) args;
        wants = option_map (λ d. d.class) to;
        args = vs;
      };
      turns = i.turns - s.spent.turns;
      room = i.room;
      memory = s.memory;
    })
    (resumes c s to)
calls c i s to args f vs = fails s

-- ---- a line

-- a pointer to a block that was made, where a place takes it
abbrev pub made_in : {P : Type 0} → Places P → Option P → Value → Values P → Values P
made_in c None v values = values
made_in c (Some p) v values = put c p v values

unfoldable pub line_step : {P : Type 0} → Places P → List Value → Given → State P → Line P →
    Event (State P) Asked Outcome
line_step c globals i s (Tick turn w) = ticks i s turn w
line_step c globals i s (Set to a) = takes c s to (value_of globals s.values a)
line_step c globals i s (Operate to op a b) =
    takes c s to (operated s.memory op (value_of globals s.values a) (value_of globals s.values b))
line_step c globals i s (Load to op at) =
    sets c s to (option_and_then (loaded s.memory op) (address_of globals s.memory s.values at))
line_step c globals i s (Store size a at) =
    changes s
    (option_and_then
    (λ v. option_and_then (λ p. store s.memory (byte_count size) p v)
    (address_of globals s.memory s.values at))
    (read globals s.values (stored_class size) a))
line_step c globals i s (Alloc to size) =
    goes_on
    (record s {
      values = made_in c to (Pointer (length s.memory) 0) s.values;
      memory = fresh s.memory size;
      owned = s.owned ++ length s.memory ∷ [];
    })
line_step c globals i s (Blit from to count) =
    changes s
    (option_and_then (λ p. option_and_then (λ q. copy s.memory count p q)
    (value_of globals s.values to)) (value_of globals s.values from))
line_step c globals i s (Call to callee args) =
    calls c i s to args (value_of globals s.values callee) (read_all globals s.values args)

-- ---- jumps

abbrev pub enters : {P : Type 0} → State P → ℕ → Event (State P) Asked Outcome
enters s k = Does (On (record s { block = k; next = 0 }))

-- what a comparison gives, 1 where it holds
abbrev pub compared : {P : Type 0} → List Value → State P → Comparison P → Option Value
compared globals s c =
    option_and_then (λ u. option_and_then (λ v. operate s.memory (Compare c.condition c.class) u v)
    (value_of globals s.values c.right))
    (value_of globals s.values c.left)

abbrev pub branches : {P : Type 0} → State P → (met otherwise : ℕ) → Option Value →
    Event (State P) Asked Outcome
branches s met otherwise (Some (Integer n)) = enters s (if nat_eq n 0 then otherwise else met)
branches s met otherwise v = fails s

abbrev pub returns : {P : Type 0} → State P → Option Value → Event (State P) Asked Outcome
returns s None = fails s
returns s (Some v) = Does (Over (Returned s.spent (Some v) (free_all s.memory s.owned)))

unfoldable pub jump_step : {P : Type 0} → List Value → Option Class → State P → Jump P →
    Event (State P) Asked Outcome
jump_step globals result s (Goto k) = enters s k
jump_step globals result s (Branch on met otherwise) =
    branches s met otherwise (compared globals s on)
jump_step globals result s (Return None) =
    Does (Over (Returned s.spent None (free_all s.memory s.owned)))
jump_step globals None s (Return (Some a)) = fails s
jump_step globals (Some k) s (Return (Some a)) = returns s (read_result globals s.values k a)
jump_step globals result s Halt = Does (Over (Ended s.spent Halted))

-- ---- a step

abbrev pub block_step : {P : Type 0} → Places P → List Value → Code P → Given → State P → Block P →
    Option (Line P) → Event (State P) Asked Outcome
block_step c globals f i s b (Some l) = line_step c globals i s l
block_step c globals f i s b None = jump_step globals f.result s b.jump

abbrev pub step_in : {P : Type 0} → Places P → List Value → Code P → Given → State P →
    Option (Block P) → Event (State P) Asked Outcome
step_in c globals f i s None = fails s
step_in c globals f i s (Some b) = block_step c globals f i s b (slice_get b.lines s.next)

-- the line that is next, or the jump where none is left
unfoldable pub step : {P : Type 0} → Places P → List Value → Code P → Given → State P →
    Event (State P) Asked Outcome
step c globals f i s = step_in c globals f i s (slice_get f.blocks s.block)
