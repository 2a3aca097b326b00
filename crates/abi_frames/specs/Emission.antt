-- The machine code of each line and jump. x2 is the stack pointer; x28 to x30 hold operands and
-- addresses for a moment.
use Rattle.std.specs.Prelude.{ℕ, zero, suc, ◌+◌, ◌-◌, ◌*◌, ◌/◌, ◌%◌, ◌^◌, Bool, not, ◌&&◌, nat_eq, nat_lt, nat_le, if◌then◌else◌, List, [], ◌∷◌, ◌++◌, length, Option, Some, None}
use Rattle.rv_isa.specs.declared.abi.TheConstants.{ZERO, RETURN_ADDRESS, STACK_POINTER, FIRST_ARGUMENT, LAST_ARGUMENT, ARGUMENT_REGISTERS, RESULT, FIRST_SCRATCH, SECOND_SCRATCH, THIRD_SCRATCH, JUMP_SCRATCH}
use Rattle.il_ast.specs.declared.operation.Class.{Class}
use Rattle.il_ast.specs.declared.operation.Class.TheVariants.{W, L}
use Rattle.il_ast.specs.declared.operation.Size.{Size}
use Rattle.il_ast.specs.declared.operation.Size.TheVariants.{Byte, Half, Word, Long}
use Rattle.il_ast.specs.declared.operation.Condition.{Condition}
use Rattle.il_ast.specs.declared.operation.Condition.TheVariants.{Equal, NotEqual, SignedLessEqual, SignedLess, SignedGreaterEqual, SignedGreater, UnsignedLessEqual, UnsignedLess, UnsignedGreaterEqual, UnsignedGreater}
use Rattle.rv_isa.specs.declared.instruction.Instr.TheVariants.{Lui, Jalr, Load, Ebreak}
use Rattle.rv_isa.specs.declared.instruction.LoadOp.{LoadOp}
use Rattle.rv_isa.specs.declared.instruction.LoadOp.TheVariants.{Ld, Lwu, Lhu, Lbu}
use Rattle.rv_isa.specs.declared.instruction.StoreOp.{StoreOp}
use Rattle.rv_isa.specs.declared.instruction.StoreOp.TheVariants.{Sb, Sh, Sw, Sd}
use Rattle.rv_isa.specs.declared.instruction.BranchOp.TheVariants.{Beq, Bne, Blt, Bge, Bltu, Bgeu}
use Rattle.rv_isa.specs.declared.ranges.Immediate.{Immediate}
use Rattle.rv_isa.specs.declared.labelled.Item.{Item}
use Rattle.rv_isa.specs.declared.labelled.Item.TheVariants.{Plain, Label, Branch as BranchTo, Goto as GoTo, Call as CallTo}
use Rattle.rv_isa.specs.declared.relocation.Partial.TheVariants.{Upper, Load as LoadBy, Store as StoreBy}
use Rattle.vcode.specs.declared.place.Location.{Location}
use Rattle.vcode.specs.declared.place.Location.TheVariants.{Register as InRegister, Slot}
use Rattle.vcode.specs.declared.place.Operand.{Operand}
use Rattle.vcode.specs.declared.place.ReturnValue.{ReturnValue}
use Rattle.vcode.specs.declared.place.Operand.TheVariants.{At, Number, Name}
use Rattle.vcode.specs.declared.place.Argument.{Argument}
use Rattle.vcode.specs.declared.place.Extension.{Extension}
use Rattle.vcode.specs.declared.place.Extension.TheVariants.{Made, Claimed}
use Rattle.vcode.specs.declared.place.Address.{Address as MemoryAddress}
use Rattle.vcode.specs.declared.place.Destination.{Destination}
use Rattle.vcode.specs.declared.line.Operation.{Operation}
use Rattle.vcode.specs.declared.line.Operation.TheVariants.{Reg as RegOperation, RegW as RegWOperation, Compare}
use Rattle.vcode.specs.declared.line.Line.{Line}
use Rattle.vcode.specs.declared.line.Line.TheVariants.{Tick, Set, Operate, Load as LoadLine, Store as StoreLine, Call, Alloc, Blit}
use Rattle.vcode.specs.declared.line.Comparison.{Comparison}
use Rattle.vcode.specs.declared.line.Jump.{Jump}
use Rattle.vcode.specs.declared.line.Jump.TheVariants.{Goto, Branch, Return, Halt}
use Rattle.vcode.specs.declared.code.Block.{Block}
use Rattle.vcode.specs.Prelude.{low, is_immediate, line_cost, alloc_bytes}
use Rattle.abi_frames.specs.declared.layout.Layout.{Layout}
use Rattle.abi_frames.specs.declared.price.TheConstants.{COPIED_RESTORES}
use Rattle.operation_code.specs.declared.immediate.Form.{Form}
use Rattle.operation_code.specs.Constants.{reg, add_low, extend, sum_to, load_8, store_8, high, load_to, store_from, store_at, with_name, name_into, constant, word}
use Rattle.operation_code.specs.Immediates.{operation_items, right_form, left_form, form_items}
use Rattle.abi_frames.specs.Moves.{all_move_up, all_moved_up}

-- ---- the frame: eight bytes at an offset from the stack pointer

abbrev pub far_load : (d offset : ℕ) → List Item
far_load d offset =
    Plain (Lui (reg d) (high offset)) ∷ sum_to d d STACK_POINTER ∷ load_8 d d offset ∷ []

abbrev pub load_slot : (d offset : ℕ) → List Item
load_slot d offset =
    if nat_lt offset 2048 then load_8 d STACK_POINTER offset ∷ [] else far_load d offset

abbrev pub far_store : (v offset : ℕ) → List Item
far_store v offset =
    Plain (Lui (reg SECOND_SCRATCH) (high offset))
    ∷ sum_to SECOND_SCRATCH SECOND_SCRATCH STACK_POINTER ∷ store_8 v SECOND_SCRATCH offset ∷ []

abbrev pub store_slot : (v offset : ℕ) → List Item
store_slot v offset =
    if nat_lt offset 2048 then store_8 v STACK_POINTER offset ∷ [] else far_store v offset

-- ---- operands and destinations

abbrev pub slot_offset : Layout → ℕ → ℕ
slot_offset y i = y.slots + 8 * i

-- the operand into the register d
abbrev pub into : Layout → ℕ → Operand Location → List Item
into y d (At (InRegister r)) = if nat_eq d r then [] else add_low d r 0 ∷ []
into y d (At (Slot i)) = load_slot d (slot_offset y i)
into y d (Number n) = constant d n
into y d (Name g) = name_into d g

-- the operand into a register: its own, or the given one; the number 0 is in x0
abbrev pub fetch : Layout → ℕ → Operand Location → List Item
fetch y d (At (InRegister r)) = []
fetch y d (At (Slot i)) = load_slot d (slot_offset y i)
fetch y d (Number n) = if nat_eq n 0 then [] else constant d n
fetch y d (Name g) = name_into d g

abbrev pub source : ℕ → Operand Location → ℕ
source d (At (InRegister r)) = r
source d (At (Slot i)) = d
source d (Number n) = if nat_eq n 0 then ZERO else d
source d (Name g) = d

-- its low 32 bits, sign-extended, into the register d
abbrev pub word_into : Layout → ℕ → Operand Location → List Item
word_into y d (Number n) = constant d (word n)
word_into y d a = fetch y d a ++ (extend d (source d a) ∷ [])

-- the same into a register: the given one; the number 0 is in x0
abbrev pub word_fetch : Layout → ℕ → Operand Location → List Item
word_fetch y d (Number n) = fetch y d (Number (word n))
word_fetch y d a = word_into y d a

abbrev pub word_source : ℕ → Operand Location → ℕ
word_source d (Number n) = source d (Number (word n))
word_source d a = d

-- the register in which a value for this place is made, and what brings it there from x28
abbrev pub target : Location → ℕ
target (InRegister r) = r
target (Slot i) = FIRST_SCRATCH

abbrev pub deliver : Layout → Location → List Item
deliver y (InRegister r) = []
deliver y (Slot i) = store_slot FIRST_SCRATCH (slot_offset y i)

-- ---- lines

abbrev pub set_items : Layout → Location → Operand Location → List Item
set_items y (InRegister r) a = into y r a
set_items y (Slot i) a =
    fetch y FIRST_SCRATCH a ++ store_slot (source FIRST_SCRATCH a) (slot_offset y i)

-- an operand of the operation, in a register: a word is extended before it is compared
abbrev pub operand_into : Layout → Operation → ℕ → Operand Location → List Item
operand_into y (Compare on W) d a = word_fetch y d a
operand_into y (Compare on L) d a = fetch y d a
operand_into y (RegOperation op) d a = fetch y d a
operand_into y (RegWOperation op) d a = fetch y d a

abbrev pub operand_source : Operation → ℕ → Operand Location → ℕ
operand_source (Compare on W) d a = word_source d a
operand_source (Compare on L) d a = source d a
operand_source (RegOperation op) d a = source d a
operand_source (RegWOperation op) d a = source d a

abbrev pub on_registers : Layout → Location → Operation → (a b : Operand Location) → List Item
on_registers y to op a b =
    operand_into y op FIRST_SCRATCH a
    ++ (operand_into y op SECOND_SCRATCH b
    ++ (operation_items op (target to) (operand_source op FIRST_SCRATCH a)
    (operand_source op SECOND_SCRATCH b) ++ deliver y to))

-- with the other operand's number in the instruction
abbrev pub by_form : Layout → Location → Operation → Operand Location → Form → List Item
by_form y to op a form =
    operand_into y op FIRST_SCRATCH a ++ (form_items form (target to)
    (operand_source op FIRST_SCRATCH a) ++ deliver y to)

-- where the right operand gives a form, where the left one does, and else
abbrev pub operate_by : Layout → Location → Operation → (a b : Operand Location) →
    (right left : Option Form) → List Item
operate_by y to op a b (Some form) left = by_form y to op a form
operate_by y to op a b None (Some form) = by_form y to op b form
operate_by y to op a b None None = on_registers y to op a b

abbrev pub operate_items : Layout → Location → Operation → (a b : Operand Location) → List Item
operate_items y to op a b = operate_by y to op a b (right_form op b) (left_form op a)

abbrev pub store_op : Size → StoreOp
store_op Byte = Sb
store_op Half = Sh
store_op Word = Sw
store_op Long = Sd

-- what an access at this offset from the base has in the register d: of the address beyond a name,
-- its upper part
abbrev pub base_items : Layout → (d : ℕ) → Operand Location → (offset : Immediate) → List Item
base_items y d (Name g) o = with_name (Upper (reg d)) g o ∷ []
base_items y d a o = fetch y d a

abbrev pub load_by : LoadOp → (d : ℕ) → Operand Location → (offset : Immediate) → Item
load_by op d (Name g) o = with_name (LoadBy op (reg d) (reg FIRST_SCRATCH)) g o
load_by op d a o = load_to op d (source FIRST_SCRATCH a) o

abbrev pub store_by : StoreOp → (v : ℕ) → Operand Location → (offset : Immediate) → Item
store_by op v (Name g) o = with_name (StoreBy op (reg SECOND_SCRATCH) (reg v)) g o
store_by op v a o = store_from op v (source SECOND_SCRATCH a) o

abbrev pub store_items : Layout → Size → Operand Location → MemoryAddress Location → List Item
store_items y size a at =
    fetch y FIRST_SCRATCH a
    ++ (base_items y SECOND_SCRATCH at.base at.offset
    ++ (store_by (store_op size) (source FIRST_SCRATCH a) at.base at.offset ∷ []))

abbrev pub load_items : Layout → Location → LoadOp → MemoryAddress Location → List Item
load_items y to op at =
    base_items y FIRST_SCRATCH at.base at.offset
    ++ ((load_by op (target to) at.base at.offset ∷ []) ++ deliver y to)

-- ---- calls

-- the class that a value is passed as: a word that is claimed to stand extended is passed as it is
abbrev pub passed_class : Extension → Class → Class
passed_class Made k = k
passed_class Claimed k = L

-- a value of class k into the register d, a word sign-extended
abbrev pub pass_into : Layout → (d : ℕ) → Class → Operand Location → List Item
pass_into y d L a = into y d a
pass_into y d W a = word_into y d a

-- the k-th argument, past the eighth: to the stack, eight bytes each from the stack pointer upward
abbrev pub stack_items : Layout → (k : ℕ) → Argument Location → List Item
stack_items y k a =
    if nat_lt k ARGUMENT_REGISTERS then [] else pass_into y FIRST_SCRATCH
    (passed_class a.extension a.class) a.value
    ++ (store_8 FIRST_SCRATCH STACK_POINTER (8 * (k - ARGUMENT_REGISTERS)) ∷ [])

abbrev pub stack_all : Layout → (k : ℕ) → List (Argument Location) → List Item
stack_all y k [] = []
stack_all y k (a ∷ args) = stack_items y k a ++ stack_all y (k + 1) args

-- the first eight go into x10 to x17
abbrev pub register_items : Layout → (k : ℕ) → Argument Location → List Item
register_items y k a =
    if nat_lt k ARGUMENT_REGISTERS then pass_into y (FIRST_ARGUMENT + k)
    (passed_class a.extension a.class) a.value else []

abbrev pub register_all : Layout → (k : ℕ) → List (Argument Location) → List Item
register_all y k [] = []
register_all y k (a ∷ args) = register_items y k a ++ register_all y (k + 1) args

-- arguments into x10 to x17, wherever they are
abbrev pub passed_items : Layout → List (Argument Location) → List Item
passed_items y args =
    all_move_up (length args) args ++ register_all y 0 (all_moved_up (length args) args)

-- the address of the callee in a register in which no argument is passed; that of a name is left to
-- the jump
abbrev pub callee_items : Layout → Operand Location → List Item
callee_items y (Name g) = []
callee_items y (At (InRegister r)) =
    if nat_le FIRST_ARGUMENT r && nat_le r LAST_ARGUMENT then add_low FIRST_SCRATCH r 0 ∷ [] else []
callee_items y a = fetch y FIRST_SCRATCH a

abbrev pub callee_source : Operand Location → ℕ
callee_source (At (InRegister r)) =
    if nat_le FIRST_ARGUMENT r && nat_le r LAST_ARGUMENT then FIRST_SCRATCH else r
callee_source a = source FIRST_SCRATCH a

-- arguments on the stack, the callee's address, and arguments in registers
abbrev pub prepare_items : Layout → (callee : Operand Location) → List (Argument Location) →
    List Item
prepare_items y callee args = stack_all y 0 args ++ (callee_items y callee ++ passed_items y args)

-- to the callee, with the address of the next instruction in x1
abbrev pub call_through : Operand Location → List Item
call_through (Name g) = CallTo g ∷ []
call_through a = Plain (Jalr (reg RETURN_ADDRESS) (reg (callee_source a)) (low 0)) ∷ []

-- the result from x10 to its place
abbrev pub receive_items : Layout → Option (Destination Location) → List Item
receive_items y None = []
receive_items y (Some d) = set_items y d.place (At (InRegister RESULT))

abbrev pub call_items : Layout → Option (Destination Location) → (callee : Operand Location) →
    List (Argument Location) → List Item
call_items y to callee args =
    prepare_items y callee args ++ (call_through callee ++ receive_items y to)

-- ---- each line

-- as many bytes as the load and the store take, at an offset from the addresses in two registers
abbrev pub copy_at : LoadOp → StoreOp → (from to offset : ℕ) → List Item
copy_at load store from to o =
    Plain (Load load (reg THIRD_SCRATCH) (reg from) (low o)) ∷ store_at store THIRD_SCRATCH to o ∷ []

-- sixteen bytes, both halves of which are loaded before the first is stored: so no store waits
abbrev pub copy_pair : (from to offset : ℕ) → List Item
copy_pair from to o =
    Plain (Load Ld (reg THIRD_SCRATCH) (reg from) (low o))
    ∷ (Plain (Load Ld (reg JUMP_SCRATCH) (reg from) (low (o + 8)))
    ∷ (store_at Sd THIRD_SCRATCH to o ∷ (store_at Sd JUMP_SCRATCH to (o + 8) ∷ [])))

-- so many times sixteen bytes, from this offset on
abbrev pub copy_pairs : (from to offset : ℕ) → (pairs : ℕ) → List Item
copy_pairs from to o zero = []
copy_pairs from to o (suc n) = copy_pair from to o ++ copy_pairs from to (o + 16) n

-- fewer than eight bytes, from this offset on: four, two and one
abbrev pub copy_rest : (from to offset : ℕ) → (bytes : ℕ) → List Item
copy_rest from to o n =
    (if nat_lt n 4 then [] else copy_at Lwu Sw from to o)
    ++ ((if nat_lt (n % 4) 2 then [] else copy_at Lhu Sh from to (o + n / 4 * 4))
    ++ (if nat_lt (n % 2) 1 then [] else copy_at Lbu Sb from to (o + n / 2 * 2)))

-- so few bytes that the offsets fit the instructions
abbrev pub copy_bytes : (from to : ℕ) → (bytes : ℕ) → List Item
copy_bytes from to n =
    copy_pairs from to 0 (n / 16)
    ++ ((if nat_lt (n % 16) 8 then [] else copy_at Ld Sd from to (n / 16 * 16))
    ++ copy_rest from to (n / 8 * 8) (n % 8))

-- 2,040 bytes, behind which the addresses in x28 and x29 move on; and so many times that
abbrev pub next_part : List Item
next_part =
    add_low FIRST_SCRATCH FIRST_SCRATCH 2040 ∷ add_low SECOND_SCRATCH SECOND_SCRATCH 2040 ∷ []

abbrev pub copy_part : List Item
copy_part = copy_bytes FIRST_SCRATCH SECOND_SCRATCH 2040 ++ next_part

abbrev pub copy_parts : ℕ → List Item
copy_parts zero = []
copy_parts (suc n) = copy_part ++ copy_parts n

abbrev pub near_blit : Layout → (from to : Operand Location) → (count : ℕ) → List Item
near_blit y from to count =
    fetch y FIRST_SCRATCH from ++ (fetch y SECOND_SCRATCH to
    ++ copy_bytes (source FIRST_SCRATCH from) (source SECOND_SCRATCH to) count)

abbrev pub far_blit : Layout → (from to : Operand Location) → (count : ℕ) → List Item
far_blit y from to count =
    into y FIRST_SCRATCH from ++ (into y SECOND_SCRATCH to
    ++ (copy_parts (count / 2040) ++ copy_bytes FIRST_SCRATCH SECOND_SCRATCH (count % 2040)))

abbrev pub blit_items : Layout → (from to : Operand Location) → (count : ℕ) → List Item
blit_items y from to count =
    if nat_lt count 2048 then near_blit y from to count else far_blit y from to count

-- the address at an offset from the stack pointer, into the register d
abbrev pub address_at : (d offset : ℕ) → List Item
address_at d offset =
    if nat_lt offset 2048 then add_low d STACK_POINTER offset ∷ []
    else Plain (Lui (reg d) (high offset)) ∷ sum_to d d STACK_POINTER ∷ add_low d d offset ∷ []

-- the address of the next block of memory, where a place takes it
abbrev pub alloc_items : Layout → (used : ℕ) → Option Location → List Item
alloc_items y used None = []
alloc_items y used (Some to) = address_at (target to) (y.area + used) ++ deliver y to

-- `used` bytes of the area for blocks of memory are taken by the lines before
abbrev pub line_items : Layout → (used : ℕ) → Line Location → List Item
line_items y used (Set to a) = set_items y to a
line_items y used (Operate to op a b) = operate_items y to op a b
line_items y used (LoadLine to op at) = load_items y to op at
line_items y used (StoreLine size a at) = store_items y size a at
line_items y used (Call to callee args) = call_items y to callee args
line_items y used (Alloc to size) = alloc_items y used to
line_items y used (Blit from to count) = blit_items y from to count
line_items y used (Tick turn w) = []

abbrev pub lines_items : Layout → (used : ℕ) → List (Line Location) → List Item
lines_items y used [] = []
lines_items y used (l ∷ lines) = line_items y used l ++ lines_items y (used + alloc_bytes l) lines

-- ---- the begin and the end of a frame

abbrev pub move_pointer : ℕ → List Item
move_pointer n =
    if is_immediate n then add_low STACK_POINTER STACK_POINTER n ∷ []
    else constant FIRST_SCRATCH n ++ (sum_to STACK_POINTER STACK_POINTER FIRST_SCRATCH ∷ [])

-- by the size of the frame; for an empty one it stays where it is
abbrev pub lower_pointer : ℕ → List Item
lower_pointer size = if nat_eq size 0 then [] else move_pointer (2 ^ 64 - size)

abbrev pub raise_pointer : ℕ → List Item
raise_pointer size = if nat_eq size 0 then [] else move_pointer size

abbrev pub save_all : (offset : ℕ) → List ℕ → List Item
save_all offset [] = []
save_all offset (r ∷ rs) = store_8 r STACK_POINTER offset ∷ save_all (offset + 8) rs

abbrev pub restore_all : (offset : ℕ) → List ℕ → List Item
restore_all offset [] = []
restore_all offset (r ∷ rs) = load_8 r STACK_POINTER offset ∷ restore_all (offset + 8) rs

abbrev pub prologue : Layout → (saved : List ℕ) → List Item
prologue y rs = lower_pointer y.size ++ save_all y.saves rs

abbrev pub go_back : Item
go_back = Plain (Jalr (reg ZERO) (reg RETURN_ADDRESS) (low 0))

abbrev pub epilogue : Layout → (saved : List ℕ) → List Item
epilogue y rs = restore_all y.saves rs ++ (raise_pointer y.size ++ (go_back ∷ []))

-- ---- jumps

abbrev pub result_items : Layout → Option Class → ReturnValue Location → List Item
result_items y None a = []
result_items y (Some k) a = pass_into y RESULT (passed_class a.extension k) a.value

-- to the label l; nothing where it is the one that stands next, and code may fall through
abbrev pub goto_items : Layout → (next l : ℕ) → List Item
goto_items y next l = if y.falls && nat_eq l next then [] else GoTo l ∷ []

-- to the label l where two registers compare so, by all 64 bits
abbrev pub branch_when : Condition → (a b l : ℕ) → Item
branch_when Equal a b l = BranchTo Beq (reg a) (reg b) l
branch_when NotEqual a b l = BranchTo Bne (reg a) (reg b) l
branch_when SignedLess a b l = BranchTo Blt (reg a) (reg b) l
branch_when SignedGreater a b l = BranchTo Blt (reg b) (reg a) l
branch_when SignedLessEqual a b l = BranchTo Bge (reg b) (reg a) l
branch_when SignedGreaterEqual a b l = BranchTo Bge (reg a) (reg b) l
branch_when UnsignedLess a b l = BranchTo Bltu (reg a) (reg b) l
branch_when UnsignedGreater a b l = BranchTo Bltu (reg b) (reg a) l
branch_when UnsignedLessEqual a b l = BranchTo Bgeu (reg b) (reg a) l
branch_when UnsignedGreaterEqual a b l = BranchTo Bgeu (reg a) (reg b) l

-- what holds where it doesn't
abbrev pub inverted : Condition → Condition
inverted Equal = NotEqual
inverted NotEqual = Equal
inverted SignedLess = SignedGreaterEqual
inverted SignedGreater = SignedLessEqual
inverted SignedLessEqual = SignedGreater
inverted SignedGreaterEqual = SignedLess
inverted UnsignedLess = UnsignedGreaterEqual
inverted UnsignedGreater = UnsignedLessEqual
inverted UnsignedLessEqual = UnsignedGreater
inverted UnsignedGreaterEqual = UnsignedLess

-- where two registers compare so, and else; turned round where the first of the labels stands next
abbrev pub ways_items : Layout → (next : ℕ) → Condition → (a b met otherwise : ℕ) → List Item
ways_items y next on a b met otherwise =
    if y.falls && nat_eq met next
    then branch_when (inverted on) a b otherwise ∷ []
    else branch_when on a b met ∷ goto_items y next otherwise

-- an operand that is compared, in a register
abbrev pub compared_into : Layout → Comparison Location → ℕ → Operand Location → List Item
compared_into y c d a = operand_into y (Compare c.condition c.class) d a

abbrev pub compared_source : Comparison Location → ℕ → Operand Location → ℕ
compared_source c d a = operand_source (Compare c.condition c.class) d a

abbrev pub branch_items : Layout → (next : ℕ) → Comparison Location → (met otherwise : ℕ) →
    List Item
branch_items y next c met otherwise =
    compared_into y c FIRST_SCRATCH c.left
    ++ (compared_into y c SECOND_SCRATCH c.right
    ++ ways_items y next c.condition (compared_source c FIRST_SCRATCH c.left)
    (compared_source c SECOND_SCRATCH c.right) met otherwise)

-- what lines leave of the instructions that are paid for: ticks add to them
abbrev pub left_by : (credit : ℕ) → Line Location → ℕ
left_by credit (Tick turn w) = credit + 32 * w
left_by credit l = credit - line_cost l

abbrev pub left_behind : (credit : ℕ) → List (Line Location) → ℕ
left_behind credit [] = credit
left_behind credit (l ∷ lines) = left_behind (left_by credit l) lines

-- at most so many instructions raise the stack pointer, and end a frame
abbrev pub raise_most : (size : ℕ) → ℕ
raise_most size = if nat_eq size 0 then 0 else if is_immediate size then 1 else 10

abbrev pub end_most : Layout → (saved : List ℕ) → ℕ
end_most y rs = length rs + (raise_most y.size + 1)

-- a return has a copy of the frame's end where that restores few registers, and where what is left
-- pays for it
abbrev pub copies_end : Layout → (saved : List ℕ) → (left : ℕ) → Bool
copies_end y rs left = nat_le (length rs) COPIED_RESTORES && nat_le (end_most y rs) left

-- to the frame's end, or a copy of it
abbrev pub leave_items : Layout → (saved : List ℕ) → (next left : ℕ) → List Item
leave_items y rs next left =
    if copies_end y rs left && not (y.falls && nat_eq y.leave next) then epilogue y rs
    else goto_items y next y.leave

-- behind the ten instructions that a value takes at most, of which two are left at least
abbrev pub left_by_value : (left : ℕ) → ℕ
left_by_value left = 2 + (left - 12)

abbrev pub return_items : Layout → (saved : List ℕ) → (next left : ℕ) →
    Option (ReturnValue Location) → List Item
return_items y rs next left None = leave_items y rs next left
return_items y rs next left (Some a) =
    result_items y y.result a ++ leave_items y rs next (left_by_value left)

abbrev pub jump_items : Layout → (saved : List ℕ) → (next left : ℕ) → Jump Location → List Item
jump_items y rs next left (Goto k) = goto_items y next k
jump_items y rs next left (Branch on met otherwise) = branch_items y next on met otherwise
jump_items y rs next left (Return a) = return_items y rs next left a
jump_items y rs next left Halt = Plain Ebreak ∷ []

-- ---- blocks

-- behind the k-th block stands the label k + 1: that of the next block, or of the frame's end
abbrev pub end_items : Layout → (saved : List ℕ) → ℕ → Block Location → List Item
end_items y rs k b = jump_items y rs (k + 1) (left_behind 0 b.lines) b.jump

abbrev pub body_items : Layout → (saved : List ℕ) → ℕ → Block Location → List Item
body_items y rs k b = lines_items y 0 b.lines ++ end_items y rs k b

abbrev pub block_items : Layout → (saved : List ℕ) → ℕ → Block Location → List Item
block_items y rs k b = Label k ∷ body_items y rs k b

-- what is made of each block, from the k-th on, behind the label of its number
abbrev pub rows : (label : ℕ → ℕ) → (body : ℕ → Block Location → List Item) → (k : ℕ) →
    List (Block Location) → List Item
rows label body k [] = []
rows label body k (b ∷ blocks) = Label (label k) ∷ (body k b ++ rows label body (k + 1) blocks)

abbrev pub blocks_items : Layout → (saved : List ℕ) → ℕ → List (Block Location) → List Item
blocks_items y rs k blocks = rows (λ l. l) (body_items y rs) k blocks
