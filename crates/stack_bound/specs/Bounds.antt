-- Bounds on the stack that calls take, known before a program runs: a number for each function, at
-- least what the function needs and the greatest bound of what it calls, checked call by call
-- (Carbonneaux, Hoffmann, Ramananandro and Shao, "End-to-End Verification of Stack-Space Bounds for
-- C Programs", PLDI 2014).
use Rattle.std.specs.Prelude.{◌≡◌, ℕ, ◌+◌, ◌-◌, Bool, true, false, nat_le, ◌&&◌, if◌then◌else◌, List, [], ◌∷◌, length, slice_get, Option, Some, None, unwrap_or, ◌≢◌, ◌≤◌, suc}
use Rattle.std.specs.List.{list_all}
use Rattle.std.specs.Option.{option_flatten}
use Rattle.il_ast.specs.declared.operand.Val.{Val}
use Rattle.il_ast.specs.declared.operand.Val.TheVariants.{Int, Temp, Global}
use Rattle.il_ast.specs.declared.operand.Arg.{Arg}
use Rattle.il_ast.specs.declared.instruction.Inst.{Inst}
use Rattle.il_ast.specs.declared.instruction.Inst.TheVariants.{Unary, Binary, Alloc, Store, Blit, Call}
use Rattle.il_ast.specs.declared.instruction.Jump.{Jump}
use Rattle.il_ast.specs.declared.instruction.Jump.TheVariants.{Goto, Branch, Return, Halt}
use Rattle.il_ast.specs.declared.instruction.Lined.{Lined}
use Rattle.il_ast.specs.declared.block.Phi.{Phi}
use Rattle.il_ast.specs.declared.block.PhiArg.{PhiArg}
use Rattle.il_ast.specs.declared.block.Block.{Block}
use Rattle.il_ast.specs.declared.function.Func.{Func}
use Rattle.il_ast.specs.declared.datum.Item.{Item}
use Rattle.il_ast.specs.declared.datum.Item.TheVariants.{Int as NumberItem, Bytes, Address}
use Rattle.il_ast.specs.declared.datum.Field.{Field}
use Rattle.il_ast.specs.declared.datum.Field.TheVariants.{Items, Zeros}
use Rattle.il_ast.specs.declared.datum.DataDef.{DataDef}
use Rattle.il_ast.specs.declared.program.InText.{InText}
use Rattle.il_ast.specs.declared.program.Target.{Target}
use Rattle.il_ast.specs.declared.program.Target.TheVariants.{Code, Object}
use Rattle.il_ast.specs.declared.program.Program.{Program}
use Rattle.il_ast.specs.declared.value.Callee.{Callee}
use Rattle.il_ast.specs.declared.value.Callee.TheVariants.{Defined, SystemWrite, SystemExit}
use Rattle.il_ast.specs.Prelude.{need, params_of, start_memory, Behaviour, behaviour_of, callees, main_call, meaning}
use Rattle.stack_bound.specs.declared.bounds.Bounds.{Bounds}
use Rattle.il_ast.specs.declared.limits.TheConstants.{STACK_ROOM}
use Rattle.il_ast.specs.declared.value.End.TheVariants.{Stack}

-- ---- bounds of calls

-- a call of a function; none where nothing is claimed
abbrev pub bound_of : Bounds → Callee → Option ℕ
bound_of b (Defined f) = option_flatten (slice_get b.functions f)
bound_of b SystemWrite = Some 0
bound_of b SystemExit = Some 0

-- a call by pointer with n arguments
abbrev pub pointed_bound : Bounds → ℕ → Option ℕ
pointed_bound b n = option_flatten (slice_get b.pointed n)

-- at most; one that is missing is above all
abbrev pub at_most : Option ℕ → Option ℕ → Bool
at_most m None = true
at_most None (Some n) = false
at_most (Some m) (Some n) = nat_le m n

-- ---- functions as values

-- how many parameters function f has
abbrev pub arity : Program → ℕ → ℕ
arity p f = length (params_of (slice_get p.functions f))

-- a function that may be called by pointer: with as many arguments as it has parameters
abbrev pub callee_fits : Program → Bounds → Callee → Bool
callee_fits p b (Defined f) = at_most (bound_of b (Defined f)) (pointed_bound b (arity p f))
callee_fits p b SystemWrite = true
callee_fits p b SystemExit = true

abbrev pub name_fits : Program → Bounds → Option Target → Bool
name_fits p b (Some (Code f)) = callee_fits p b f
name_fits p b (Some (Object k)) = true
name_fits p b None = true

-- an operand that may become a value; `names` is what the text's global names mean
abbrev pub operand_fits : Program → Bounds → (names : List Target) → Val → Bool
operand_fits p b names (Int n) = true
operand_fits p b names (Temp t) = true
operand_fits p b names (Global g) = name_fits p b (slice_get names g)

-- ---- what a function does, with so many bytes left for what it calls

abbrev pub named_bound : Bounds → Option Target → Option ℕ
named_bound b (Some (Code f)) = bound_of b f
named_bound b (Some (Object k)) = Some 0
named_bound b None = Some 0

-- a call of this operand with n arguments
abbrev pub call_bound : Bounds → (names : List Target) → Val → ℕ → Option ℕ
call_bound b names (Int k) n = Some 0
call_bound b names (Temp t) n = pointed_bound b n
call_bound b names (Global g) n = named_bound b (slice_get names g)

abbrev pub args_fit : Program → Bounds → (names : List Target) → List Arg → Bool
args_fit p b names args = list_all (λ (a : Arg). operand_fits p b names a.value) args

abbrev pub inst_fits : Program → Bounds → (names : List Target) → (left : ℕ) → Inst → Bool
inst_fits p b names left (Unary to op a) = operand_fits p b names a
inst_fits p b names left (Binary to op a c) = true
inst_fits p b names left (Alloc to alignment size) = true
inst_fits p b names left (Store size a at) = operand_fits p b names a
inst_fits p b names left (Blit from to count) = true
inst_fits p b names left (Call to callee args) =
    at_most (call_bound b names callee (length args)) (Some left) && args_fit p b names args

abbrev pub phi_fits : Program → Bounds → (names : List Target) → Phi → Bool
phi_fits p b names phi = list_all (λ (a : PhiArg). operand_fits p b names a.value) phi.args

abbrev pub jump_fits : Program → Bounds → (names : List Target) → Jump → Bool
jump_fits p b names (Goto l) = true
jump_fits p b names (Branch a nonzero otherwise) = true
jump_fits p b names (Return None) = true
jump_fits p b names (Return (Some a)) = operand_fits p b names a
jump_fits p b names Halt = true

abbrev pub end_fits : Program → Bounds → (names : List Target) → Option (Lined Jump) → Bool
end_fits p b names None = true
end_fits p b names (Some j) = jump_fits p b names j.item

abbrev pub block_fits : Program → Bounds → (names : List Target) → (left : ℕ) → Block → Bool
block_fits p b names left block =
    list_all (phi_fits p b names) block.phis
    && (list_all (λ (i : Lined Inst). inst_fits p b names left i.item) block.insts
    && end_fits p b names block.jump)

-- ---- programs

-- what the global names of text t mean
abbrev pub names_in : Program → ℕ → List Target
names_in p t = unwrap_or (slice_get p.targets t) []

-- what a bound leaves to calls, once the function has what it needs
abbrev pub left_of : (need bound : ℕ) → Option ℕ
left_of need bound = if nat_le need bound then Some (bound - need) else None

abbrev pub blocks_fit : Program → Bounds → InText Func → (left : Option ℕ) → Bool
blocks_fit p b f None = false
blocks_fit p b f (Some left) = list_all (block_fits p b (names_in p f.text) left) f.item.blocks

-- of a function with this bound
abbrev pub function_fits : Program → Bounds → InText Func → Option ℕ → Bool
function_fits p b f None = true
function_fits p b f (Some bound) = blocks_fit p b f (left_of (need f.item) bound)

-- of functions from number n on
abbrev pub functions_fit : Program → Bounds → ℕ → List (InText Func) → Bool
functions_fit p b n [] = true
functions_fit p b n (f ∷ fs) =
    function_fits p b f (bound_of b (Defined n)) && functions_fit p b (n + 1) fs

abbrev pub item_fits : Program → Bounds → (names : List Target) → Item → Bool
item_fits p b names (NumberItem n) = true
item_fits p b names (Bytes text) = true
item_fits p b names (Address g offset) = name_fits p b (slice_get names g)

abbrev pub field_fits : Program → Bounds → (names : List Target) → Field → Bool
field_fits p b names (Items size items) = list_all (item_fits p b names) items
field_fits p b names (Zeros n) = true

abbrev pub object_fits : Program → Bounds → InText DataDef → Bool
object_fits p b d = list_all (field_fits p b (names_in p d.text)) d.item.fields

unfoldable pub are_bounds : Program → Bounds → Bool
are_bounds p b = functions_fit p b 0 p.functions && list_all (object_fits p b) p.objects

-- each function with a bound has room in it for its need and, beyond that, for each call that it
-- makes; and no function that may become a value has a greater one than calls by pointer
abbrev pub AreBounds : Program → Bounds → Type 0
AreBounds p b = are_bounds p b ≡ true

-- ---- what bounds are good for: with so much room, no call finds too little

-- the meaning of a program whose `main` is called with so much room
abbrev pub meaning_in : Program → (room : ℕ) → (words : List (List ℕ)) → (turns : ℕ) → Behaviour
meaning_in p room words n =
    behaviour_of (callees p (suc n) (main_call p words) n room (start_memory p words))

-- with n bytes of stack or more no run ends for want of it, whatever the argument words and turns
abbrev pub IsEnough : Program → ℕ → Type 0
IsEnough p n =
    (room : ℕ) (words : List (List ℕ)) (turns : ℕ) → n ≤ room →
    (meaning_in p room words turns).ending ≢ Stack

-- no run of the program ends for want of stack
abbrev pub StaysInStack : Program → Type 0
StaysInStack p = (words : List (List ℕ)) (turns : ℕ) → (meaning p words turns).ending ≢ Stack

-- the bound of `main` is enough
abbrev pub BoundsAreEnough : Type 0
BoundsAreEnough =
    (p : Program) (b : Bounds) (n : ℕ) → AreBounds p b → bound_of b (Defined p.main) ≡ Some n →
    IsEnough p n

-- where that is at most the room that `main` is called with, the program stays in the stack
abbrev pub EnoughStays : Type 0
EnoughStays = (p : Program) (n : ℕ) → IsEnough p n → n ≤ STACK_ROOM → StaysInStack p
