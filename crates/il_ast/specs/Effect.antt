-- What one turn does: one instruction, or one jump with the phis of the block that it enters (QBE
-- IL, "Instructions", "Jumps", "Phi").
use Rattle.std.specs.Prelude.{ℕ, ◌+◌, ◌/◌, ◌%◌, ◌^◌, nat_eq, if◌then◌else◌, List, [], ◌∷◌, ◌++◌, map, length, slice_get, slice_set, Option, Some, None, position, find}
use Rattle.std.specs.Option.{option_map, option_and_then, option_flatten}
use Rattle.il_ast.specs.Types.{Class, W, L, Size, Byte, Half, Word, Long, Val, Int, Temp, Global, Dest, Arg, Inst, Unary, Binary, Alloc, Store, Blit, Call as CallInst, Jump, Goto, Branch, Return, Lined, Phi, PhiArg, Block, Func, Callee, Value, Integer, Pointer, Function, End, Halt, Undefined}
use Rattle.il_ast.specs.declared.instruction.Jump.TheVariants.{Halt as HaltJump}
use Rattle.il_ast.specs.Values.{in_place, byte_count}
use Rattle.il_ast.specs.Memory.{Memory, store, copy, fresh, free_all}
use Rattle.il_ast.specs.Operations.{operand_class, left_class, right_class, operate_one, operate_two}

-- what an activation holds: the values of its temporaries, none for one not assigned yet, and the
-- blocks that it made by `alloc`
pub record Locals : Type 0 where
  pub temps : List (Option Value)
  pub owned : List ℕ

-- where an activation stands: a block by its place in the function, the next instruction in it, and
-- what it holds
pub record Activation : Type 0 where
  pub block : ℕ
  pub next : ℕ
  pub locals : Locals

-- a function, and the values of its text's global names
pub record Env : Type 0 where
  pub func : Func
  pub globals : List Value

-- a call: its callee, the classes of its arguments, the class of the result that it wants, its
-- arguments
pub record Call : Type 0 where
  pub callee : Callee
  pub classes : List Class
  pub wants : Option Class
  pub args : List Value

-- ---- operands

-- an integer modulo 2^64; none for a temporary that is not assigned yet
abbrev pub value_at : List Value → List (Option Value) → Val → Option Value
value_at globals temps (Int n) = Some (Integer (n % 2 ^ 64))
value_at globals temps (Temp t) = option_flatten (slice_get temps t)
value_at globals temps (Global g) = slice_get globals g

-- an operand in a place of class c
abbrev pub operand : List Value → List (Option Value) → Class → Val → Option Value
operand globals temps c a = option_and_then (in_place c) (value_at globals temps a)

abbrev pub all_operands : List Value → List (Option Value) → List Arg → Option (List Value)
all_operands globals temps [] = Some []
all_operands globals temps (a ∷ args) =
    option_and_then (λ v. option_map (λ vs. v ∷ vs) (all_operands globals temps args))
    (operand globals temps a.class a.value)

abbrev pub assign : Locals → ℕ → Value → Locals
assign here t v = record here { temps = slice_set here.temps t (Some v) }

-- ---- instructions

-- what an instruction does: it is done, with its weight; or it asks a call; or it is undefined
pub data InstEffect : Type 0 where
  Done : (weight : ℕ) → Locals → Memory → InstEffect
  Asks : (weight : ℕ) → Call → Option Dest → InstEffect
  Fails : InstEffect

-- the value is written to the temporary, or there is none
abbrev pub assigned : Locals → Memory → ℕ → Option Value → InstEffect
assigned here m t None = Fails
assigned here m t (Some v) = Done 1 (assign here t v) m

abbrev pub changed : Locals → ℕ → Option Memory → InstEffect
changed here weight None = Fails
changed here weight (Some m) = Done weight here m

-- the class of a store's place: the whole value for 8 bytes, else the low bytes of a word
abbrev pub stored_class : Size → Class
stored_class Byte = W
stored_class Half = W
stored_class Word = W
stored_class Long = L

-- 1, and 1 more for each 8 bytes begun
abbrev pub blit_weight : ℕ → ℕ
blit_weight count = 1 + (count + 7) / 8

-- 1, and 1 more for each argument
abbrev pub call_weight : List Arg → ℕ
call_weight args = 1 + length args

abbrev pub calls_value : Option Dest → List Arg → Value → List Value → InstEffect
calls_value to args (Function f) values =
    Asks (call_weight args)
    (record {
      callee = f;
      classes = map (λ (a : Arg). a.class) args;
      wants = option_map (λ (d : Dest). d.class) to;
      args = values;
    })
    to
calls_value to args (Integer n) values = Fails
calls_value to args (Pointer b o) values = Fails

abbrev pub call_effect : Option Dest → List Arg → Option Value → Option (List Value) → InstEffect
call_effect to args None values = Fails
call_effect to args (Some f) None = Fails
call_effect to args (Some f) (Some values) = calls_value to args f values

unfoldable pub inst_effect : List Value → Locals → Memory → Inst → InstEffect
inst_effect globals here m (Unary to op a) =
    assigned here m to.temp
    (option_and_then (operate_one m op to.class)
    (operand globals here.temps (operand_class op to.class) a))
inst_effect globals here m (Binary to op a b) =
    assigned here m to.temp
    (option_and_then
    (λ u. option_and_then (λ v. operate_two m op to.class u v)
    (operand globals here.temps (right_class op to.class) b))
    (operand globals here.temps (left_class op to.class) a))
inst_effect globals here m (Alloc to alignment size) =
    Done 1
    (record {
      temps = slice_set here.temps to.temp (Some (Pointer (length m) 0));
      owned = here.owned ++ length m ∷ [];
    })
    (fresh m size)
inst_effect globals here m (Store size a at) =
    changed here 1
    (option_and_then
    (λ v. option_and_then (λ p. store m (byte_count size) p v) (operand globals here.temps L at))
    (operand globals here.temps (stored_class size) a))
inst_effect globals here m (Blit from to count) =
    changed here (blit_weight count)
    (option_and_then
    (λ p. option_and_then (λ q. copy m count p q) (operand globals here.temps L to))
    (operand globals here.temps L from))
inst_effect globals here m (CallInst to callee args) =
    call_effect to args (operand globals here.temps L callee) (all_operands globals here.temps args)

-- ---- turns

-- what a turn does: it goes on; or it makes a call whose result goes to the destination; or it
-- returns; or it ends the run
pub data Effect : Type 0 where
  Goes : (weight : ℕ) → Activation → Memory → Effect
  Calls : (weight : ℕ) → Call → Option Dest → Activation → Effect
  Returns : Option Value → Memory → Effect
  Ends : End → Effect

-- the value of a phi where its block is entered from this one
abbrev pub phi_value : List Value → List (Option Value) → (from : ℕ) → Phi → Option Value
phi_value globals temps from p =
    option_and_then (λ (a : PhiArg). operand globals temps p.to.class a.value)
    (find (λ (a : PhiArg). nat_eq a.from from) p.args)

-- the values of phis, all read before one is written
abbrev pub phi_values : List Value → List (Option Value) → (from : ℕ) → List Phi →
    Option (List Value)
phi_values globals temps from [] = Some []
phi_values globals temps from (p ∷ ps) =
    option_and_then (λ v. option_map (λ vs. v ∷ vs) (phi_values globals temps from ps))
    (phi_value globals temps from p)

abbrev pub with_phis : List (Option Value) → List Phi → List Value → List (Option Value)
with_phis temps [] vs = temps
with_phis temps (p ∷ ps) [] = temps
with_phis temps (p ∷ ps) (v ∷ vs) = with_phis (slice_set temps p.to.temp (Some v)) ps vs

-- the place of the block with this label
abbrev pub place_of : List Block → ℕ → Option ℕ
place_of blocks l = position (λ (b : Block). nat_eq b.label l) blocks

abbrev pub entered : Locals → Memory → ℕ → List Phi → Option (List Value) → Effect
entered here m k phis None = Ends Undefined
entered here m k phis (Some vs) =
    Goes (1 + length phis) (record {
      block = k;
      next = 0;
      locals = record here { temps = with_phis here.temps phis vs };
    }) m

-- the block at place k is entered from the block with this label
abbrev pub enter_at : Env → (from : ℕ) → Locals → Memory → ℕ → Option Block → Effect
enter_at env from here m k None = Ends Undefined
enter_at env from here m k (Some b) =
    entered here m k b.phis (phi_values env.globals here.temps from b.phis)

abbrev pub enter_place : Env → (from : ℕ) → Locals → Memory → Option ℕ → Effect
enter_place env from here m None = Ends Undefined
enter_place env from here m (Some k) = enter_at env from here m k (slice_get env.func.blocks k)

abbrev pub enter : Env → (from : ℕ) → Locals → Memory → (label : ℕ) → Effect
enter env from here m l = enter_place env from here m (place_of env.func.blocks l)

abbrev pub branch_to : Value → ℕ → ℕ → ℕ
branch_to (Integer n) nonzero otherwise = if nat_eq n 0 then otherwise else nonzero
branch_to v nonzero otherwise = otherwise

abbrev pub branched : Env → (from : ℕ) → Locals → Memory → ℕ → ℕ → Option Value → Effect
branched env from here m nonzero otherwise None = Ends Undefined
branched env from here m nonzero otherwise (Some v) =
    enter env from here m (branch_to v nonzero otherwise)

abbrev pub returned : Locals → Memory → Option Value → Effect
returned here m None = Ends Undefined
returned here m (Some v) = Returns (Some v) (free_all m here.owned)

-- a value is returned in a place of the function's class
abbrev pub return_value : Env → Locals → Memory → Option Class → Val → Effect
return_value env here m None a = Ends Undefined
return_value env here m (Some c) a = returned here m (operand env.globals here.temps c a)

abbrev pub jump_effect : Env → (from : ℕ) → Locals → Memory → Jump → Effect
jump_effect env from here m (Goto l) = enter env from here m l
jump_effect env from here m (Branch a nonzero otherwise) =
    branched env from here m nonzero otherwise (operand env.globals here.temps W a)
jump_effect env from here m (Return None) = Returns None (free_all m here.owned)
jump_effect env from here m (Return (Some a)) = return_value env here m env.func.result a
jump_effect env from here m HaltJump = Ends Halt

-- a block without a jump, which no program has, has no meaning
abbrev pub end_effect : Env → (from : ℕ) → Locals → Memory → Option (Lined Jump) → Effect
end_effect env from here m None = Ends Undefined
end_effect env from here m (Some j) = jump_effect env from here m j.item

-- after an instruction at place k of block b
abbrev pub after_inst : (block next : ℕ) → Locals → InstEffect → Effect
after_inst b k here (Done weight now m) =
    Goes weight (record { block = b; next = k + 1; locals = now }) m
after_inst b k here (Asks weight call to) =
    Calls weight call to (record { block = b; next = k + 1; locals = here })
after_inst b k here Fails = Ends Undefined

-- the instruction, or the jump where none is left
abbrev pub turn_in : Env → Activation → Memory → Block → Option (Lined Inst) → Effect
turn_in env a m b (Some i) =
    after_inst a.block a.next a.locals (inst_effect env.globals a.locals m i.item)
turn_in env a m b None = end_effect env b.label a.locals m b.jump

abbrev pub turn_of : Env → Activation → Memory → Option Block → Effect
turn_of env a m None = Ends Undefined
turn_of env a m (Some b) = turn_in env a m b (slice_get b.insts a.next)

-- what the turn that is due in this activation does
unfoldable pub effect : Env → Activation → Memory → Effect
effect env a m = turn_of env a m (slice_get env.func.blocks a.block)
