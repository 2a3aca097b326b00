-- The code of a line has no label and no jump to one, and is no longer than the line's cost; so the code of a function is within its price.
use Rattle.std.proofs.Common.{suc, zero, ◌/◌, ◌≡◌, ℕ, ◌+◌, ◌-◌, ◌*◌, ◌%◌, ◌^◌, ◌<◌, ◌≤◌, Bool, true, false, List, [], ◌∷◌, ◌++◌, refl, sym, ◌∙◌, ap, subst, arith, lit≤, ◌&&◌, not, nat_eq, nat_le, nat_lt, if◌then◌else◌, length, Option, Some, None}
use Rattle.bits.specs.Words.{sign_extended}
use Rattle.abi_frames.proofs.Shared.{Condition, Class, W, L, Immediate, LoadOp, StoreOp, Item, Plain, Label, Location, InRegister, Slot, Operand, ReturnValue, Argument, Destination, At, Number, Name, Operation, Line, Comparison, Jump, Block, Code, Layout, list_all, sum_by, and_parts, and_from, leb-true, longest_size, all_append, not_both, nat_tests, sum_by-cons, low}
use Rattle.il_ast.specs.declared.operation.Condition.TheVariants.{Equal, NotEqual, SignedLessEqual, SignedLess, SignedGreaterEqual, SignedGreater, UnsignedLessEqual, UnsignedLess, UnsignedGreaterEqual, UnsignedGreater}
use Rattle.il_ast.specs.declared.operation.Size.{Size}
use Rattle.rv_isa.specs.declared.instruction.LoadOp.TheVariants.{Ld, Lwu, Lhu, Lbu}
use Rattle.rv_isa.specs.declared.instruction.StoreOp.TheVariants.{Sb, Sh, Sw, Sd}
use Rattle.rv_isa.specs.declared.instruction.Instr.TheVariants.{Lui, Addiw}
use Rattle.rv_isa.specs.declared.labelled.Item.TheVariants.{Branch as BranchTo, Goto as GoTo, Call as CallTo, Relocated}
use Rattle.vcode.specs.declared.place.Address.{Address as MemoryAddress}
use Rattle.vcode.specs.declared.line.Operation.TheVariants.{Reg as RegOperation, RegW as RegWOperation, Compare}
use Rattle.vcode.specs.declared.line.Line.TheVariants.{Tick, Set, Operate, Load, Store, Alloc, Blit, Call}
use Rattle.vcode.specs.declared.line.Jump.TheVariants.{Goto, Branch, Return, Halt}
use Rattle.il_ast.specs.Prelude.{round_16}
use Rattle.vcode.specs.Prelude.{branch_cost, is_immediate, operand_cost, operation_cost, line_cost, jump_cost, affords, is_paid, weight_of, alloc_bytes, code_weight, is_near, are_near}
use Rattle.abi_frames.specs.Performs.{layout, saved_registers}
use Rattle.abi_frames.proofs.Saving.{few_saved_registers}
use Rattle.abi_frames.specs.Examples.{IsCode}
use Rattle.operation_code.specs.Constants.{reg, high, add_low, extend, sum_to, load_8, store_8, zeros_of, left_of, is_near_number, near_constant, is_made, added, shifted_by, made_constant, long_constant, word, is_word, word_constant, constant}
use Rattle.operation_code.specs.Immediates.{right_form, left_form, compare_number, form_items, compare_items, operation_items}
use Rattle.operation_code.specs.declared.immediate.Form.{Form}
use Rattle.operation_code.specs.declared.immediate.Form.TheVariants.{Immediate as ByImmediate, AddWord, Shift as ByShift, ShiftWord, Compare as ByComparison}
use Rattle.operation_code.proofs.FormNumbers.{word_low, word_is_small}
use Rattle.abi_frames.proofs.Branching.{branch_size}
use Rattle.abi_frames.specs.Emission.{far_store, load_slot, store_slot, slot_offset, into, fetch, source, word_into, word_fetch, target, deliver, set_items, operand_into, operand_source, on_registers, by_form, operate_by, operate_items, base_items, load_by, load_items, store_by, store_op, store_items, line_items, lines_items, move_pointer, lower_pointer, raise_pointer, save_all, restore_all, prologue, epilogue, result_items, goto_items, branch_when, inverted, ways_items, compared_into, compared_source, branch_items, leave_items, left_by, left_behind, raise_most, end_most, copies_end, left_by_value, jump_items, end_items, body_items, blocks_items, passed_class, pass_into, stack_items, stack_all, register_items, register_all, passed_items, callee_items, prepare_items, call_through, receive_items, call_items, copy_at, copy_pair, copy_pairs, copy_rest, copy_bytes, copy_part, copy_parts, near_blit, far_blit, blit_items, address_at, alloc_items}
use Rattle.abi_frames.specs.Moves.{operand_exchanged, argument_exchanged, exchange, is_read, settled, arrived, earlier_at, move_up, moves_up, moved_up, all_move_up, all_moved_up}
use Rattle.abi_frames.proofs.MovingUp.{moved_length}
use Rattle.abi_frames.proofs.Sources.{sources_length}
use Rattle.abi_frames.specs.Functions.{argument_items, arguments_items, is_for_arguments, goes_away, is_on_stack, sources, pointer_items, entry_items, function_items}
use Rattle.operation_code.proofs.Leading.{longest-append}
use Rattle.abi_frames.proofs.Outgoing.{slots_near}

-- ---- code of instructions alone

-- no label, and no jump to one
abbrev pub is_instruction : Item → Bool
is_instruction (Plain i) = true
is_instruction (Label l) = false
is_instruction (BranchTo op a b l) = false
is_instruction (GoTo l) = false
is_instruction (CallTo n) = true
is_instruction (Relocated r) = true

-- so many at most
pub record Instructions (most : ℕ) (is : List Item) : Type 0 where
  pub few : longest_size is ≤ most
  pub alone : list_all is_instruction is ≡ true

pub nothing : {n : ℕ} → Instructions n []
nothing = record { few = omega arith; alone = refl }

-- these ones
short : {n : ℕ} {is : List Item} → nat_le (longest_size is) n ≡ true → list_all is_instruction is ≡ true → Instructions n is
short {n} {is} h k = record { few = leb-true (longest_size is) n h; alone = k }

fits : {m n : ℕ} {is : List Item} → Instructions m is → m ≤ n → Instructions n is
fits h le = record { few = (let few = h.few in omega (arith, few, le)); alone = h.alone }

joined : {m n : ℕ} {is js : List Item} → Instructions m is → Instructions n js → Instructions (m + n) (is ++ js)
joined {is = is} {js = js} h k = record {
  few = (let all = longest-append is js in let a = h.few in let b = k.few in omega (arith, all, a, b));
  alone = all_append is_instruction is js h.alone k.alone;
}

either : {n : ℕ} {is js : List Item} (b : Bool) → Instructions n is → Instructions n js → Instructions n (if b then is else js)
either true h k = h
either false h k = k

-- ---- lines

word_size : (d m : ℕ) → Instructions 2 (word_constant d m)
word_size d m = by_test (nat_eq (m % 4096) 0)
  where
    by_test : (b : Bool) → Instructions 2 (Plain (Lui (reg d) (high m)) ∷ (if b then [] else Plain (Addiw (reg d) (reg d) (low m)) ∷ []))
    by_test true = short refl refl
    by_test false = short refl refl

near_size : (d m : ℕ) → Instructions 2 (near_constant d m)
near_size d m = either (is_immediate m) (short refl refl) (word_size d (m % 2 ^ 32))

added_size : (d m : ℕ) → Instructions 1 (added d m)
added_size d m = either (nat_eq (m % 4096) 0) nothing (short refl refl)

-- two for each shift, and two
made_size : (k d m : ℕ) → Instructions (2 * k + 2) (made_constant k d m)
made_size zero d m = fits (near_size d m) (omega arith)
made_size (suc k) d m =
    either (is_near_number m) (fits (near_size d m) (omega arith))
    (fits (joined (made_size k d (left_of m)) (joined (short {n = 1} {is = shifted_by d (zeros_of m) ∷ []} refl refl) (added_size d m))) (omega arith))

long_constant_size : (d m : ℕ) → Instructions 9 (long_constant d m)
unfolding long_constant
long_constant_size d m = either (is_made 3 m) (fits (made_size 3 d m) (lit≤ tt)) (short refl refl)

constant_size : (d n : ℕ) → Instructions (if is_immediate n then 1 else 9) (constant d n)
constant_size d n = by_test (is_immediate n) (is_word n)
  where
    by_test : (b t : Bool)
        → Instructions (if b then 1 else 9) (if b then add_low d 0 n ∷ [] else if t then word_constant d (n % 2 ^ 32) else long_constant d (n % 2 ^ 64))
    by_test true t = short refl refl
    by_test false true = fits (word_size d (n % 2 ^ 32)) (lit≤ tt)
    by_test false false = long_constant_size d (n % 2 ^ 64)

load_size : (d o : ℕ) → Instructions 3 (load_slot d o)
load_size d o = either (nat_lt o 2048) (short refl refl) (short refl refl)

store_size : (v o : ℕ) → Instructions 3 (store_slot v o)
store_size v o = either (nat_lt o 2048) (short refl refl) (short refl refl)

pub fetch_size : (y : Layout) (d : ℕ) (a : Operand Location) → Instructions (operand_cost a) (fetch y d a)
fetch_size y d (At (InRegister r)) = nothing
fetch_size y d (At (Slot i)) = load_size d (slot_offset y i)
fetch_size y d (Number n) = either (nat_eq n 0) nothing (constant_size d n)
fetch_size y d (Name g) = short refl refl

pub into_size : (y : Layout) (d : ℕ) (a : Operand Location) → Instructions (operand_cost a) (into y d a)
into_size y d (At (InRegister r)) = either (nat_eq d r) nothing (short refl refl)
into_size y d (At (Slot i)) = load_size d (slot_offset y i)
into_size y d (Number n) = constant_size d n
into_size y d (Name g) = short refl refl

extended_size : (y : Layout) (d : ℕ) (a : Operand Location) → Instructions (operand_cost a + 1) (fetch y d a ++ (extend d (source d a) ∷ []))
extended_size y d a = joined (fetch_size y d a) (short refl refl)

number_at_most_9 : (n : ℕ) → (if is_immediate n then 1 else 9) ≤ 9
number_at_most_9 n = by_test (is_immediate n)
  where
    by_test : (b : Bool) → (if b then 1 else 9) ≤ 9
    by_test true = lit≤ tt
    by_test false = lit≤ tt

constant_at_most_9 : (d n : ℕ) → Instructions 9 (constant d n)
constant_at_most_9 d n = fits (constant_size d n) (number_at_most_9 n)

some_cost : (n : ℕ) → 1 ≤ operand_cost {P = Location} (Number n)
some_cost n = by_test (is_immediate n)
  where
    by_test : (b : Bool) → 1 ≤ (if b then 1 else 9)
    by_test true = lit≤ tt
    by_test false = lit≤ tt

-- a number of 32 bits takes two at most
constant_of_word_size : (d n : ℕ) → Instructions 2 (constant d (word n))
constant_of_word_size d n = by_test (is_immediate (word n)) (is_word (word n)) refl
  where
    same : nat_eq (word (word n)) (word n % 2 ^ 64) ≡ true
    same =
        let e : word (word n) ≡ word n = ap sign_extended (word_low n) in
        let d = word_is_small n in
        grind (arith, nat_tests)

    by_test : (b t : Bool) → is_word (word n) ≡ t
        → Instructions 2 (if b then add_low d 0 (word n) ∷ [] else if t then word_constant d (word n % 2 ^ 32) else long_constant d (word n % 2 ^ 64))
    by_test true t e = short refl refl
    by_test false true e = word_size d (word n % 2 ^ 32)
    by_test false false e = absurd (not_both (is_word (word n)) same e)

pub word_into_size : (y : Layout) (d : ℕ) (a : Operand Location) → Instructions (operand_cost a + 1) (word_into y d a)
word_into_size y d (At p) = extended_size y d (At p)
word_into_size y d (Number n) = fits (constant_of_word_size d n) (let some = some_cost n in omega (arith, some))
word_into_size y d (Name g) = extended_size y d (Name g)

word_fetch_size : (y : Layout) (d : ℕ) (a : Operand Location) → Instructions (operand_cost a + 1) (word_fetch y d a)
word_fetch_size y d (At p) = word_into_size y d (At p)
word_fetch_size y d (Number n) =
    fits (either (nat_eq (word n) 0) nothing (constant_of_word_size d n)) (let some = some_cost n in omega (arith, some))
word_fetch_size y d (Name g) = word_into_size y d (Name g)

set_size : (y : Layout) (to : Location) (a : Operand Location) → Instructions (operand_cost a + 3) (set_items y to a)
set_size y (InRegister r) a = fits (into_size y r a) (omega arith)
set_size y (Slot i) a = joined (fetch_size y 28 a) (store_size (source 28 a) (slot_offset y i))

compare_size : (on : Condition) (d a b : ℕ) → Instructions 2 (compare_items on d a b)
compare_size Equal d a b = short refl refl
compare_size NotEqual d a b = short refl refl
compare_size SignedLess d a b = short refl refl
compare_size SignedGreater d a b = short refl refl
compare_size SignedLessEqual d a b = short refl refl
compare_size SignedGreaterEqual d a b = short refl refl
compare_size UnsignedLess d a b = short refl refl
compare_size UnsignedGreater d a b = short refl refl
compare_size UnsignedLessEqual d a b = short refl refl
compare_size UnsignedGreaterEqual d a b = short refl refl

compare_number_size : (on : Condition) (d a n : ℕ) → Instructions 2 (compare_number on d a n)
compare_number_size Equal d a n = either (nat_eq n 0) (short refl refl) (short refl refl)
compare_number_size NotEqual d a n = either (nat_eq n 0) (short refl refl) (short refl refl)
compare_number_size SignedLess d a n = short refl refl
compare_number_size SignedLessEqual d a n = short refl refl
compare_number_size SignedGreater d a n = short refl refl
compare_number_size SignedGreaterEqual d a n = short refl refl
compare_number_size UnsignedLess d a n = short refl refl
compare_number_size UnsignedLessEqual d a n = short refl refl
compare_number_size UnsignedGreater d a n = short refl refl
compare_number_size UnsignedGreaterEqual d a n = short refl refl

form_size : (form : Form) (d a : ℕ) → Instructions 2 (form_items form d a)
form_size (ByImmediate op n) d a = short refl refl
form_size (AddWord n) d a = short refl refl
form_size (ByShift op n) d a = short refl refl
form_size (ShiftWord op n) d a = short refl refl
form_size (ByComparison on n) d a = compare_number_size on d a n

deliver_size : (y : Layout) (to : Location) → Instructions 3 (deliver y to)
deliver_size y (InRegister r) = nothing
deliver_size y (Slot i) = store_size 28 (slot_offset y i)

-- how much more an operand takes that is extended
abbrev extending : Operation → ℕ
extending (Compare on k) = 1
extending (RegOperation op) = 0
extending (RegWOperation op) = 0

read_size : (y : Layout) (op : Operation) (d : ℕ) (a : Operand Location) → Instructions (operand_cost a + extending op) (operand_into y op d a)
read_size y (RegOperation op) d a = fits (fetch_size y d a) (omega arith)
read_size y (RegWOperation op) d a = fits (fetch_size y d a) (omega arith)
read_size y (Compare on L) d a = fits (fetch_size y d a) (omega arith)
read_size y (Compare on W) d a = word_fetch_size y d a

some_operand_cost : (a : Operand Location) → 1 ≤ operand_cost a
some_operand_cost (At p) = lit≤ tt
some_operand_cost (Number n) = some_cost n
some_operand_cost (Name g) = lit≤ tt

-- an operation on registers
operation_size : (op : Operation) (d a b : ℕ) → Instructions (1 + extending op) (operation_items op d a b)
operation_size (RegOperation op) d a b = short refl refl
operation_size (RegWOperation op) d a b = short refl refl
operation_size (Compare on k) d a b = compare_size on d a b

enough_cost : (op : Operation) → 1 + 3 * extending op ≤ operation_cost op
enough_cost (RegOperation op) = lit≤ tt
enough_cost (RegWOperation op) = lit≤ tt
enough_cost (Compare on k) = lit≤ tt

by_form_size : (y : Layout) (to : Location) (op : Operation) (a b : Operand Location) (form : Form)
    → Instructions (operand_cost a + operand_cost b + operation_cost op + 3) (by_form y to op a form)
by_form_size y to op a b form =
    let some = some_operand_cost b in
    let enough = enough_cost op in
    fits (joined (read_size y op 28 a) (joined (form_size form (target to) (operand_source op 28 a)) (deliver_size y to))) (omega (arith, some, enough))

on_registers_size : (y : Layout) (to : Location) (op : Operation) (a b : Operand Location)
    → Instructions (operand_cost a + operand_cost b + operation_cost op + 3) (on_registers y to op a b)
on_registers_size y to op a b =
    let made = operation_size op (target to) (operand_source op 28 a) (operand_source op 29 b) in
    let enough = enough_cost op in
    fits (joined (read_size y op 28 a) (joined (read_size y op 29 b) (joined made (deliver_size y to)))) (omega (arith, enough))

operate_size : (y : Layout) (to : Location) (op : Operation) (a b : Operand Location)
    → Instructions (operand_cost a + operand_cost b + operation_cost op + 3) (operate_items y to op a b)
operate_size y to op a b = by_forms (right_form op b) (left_form op a)
  where
    by_forms : (right left : Option Form) → Instructions (operand_cost a + operand_cost b + operation_cost op + 3) (operate_by y to op a b right left)
    by_forms (Some form) left = by_form_size y to op a b form
    by_forms None (Some form) = fits (by_form_size y to op b a form) (omega arith)
    by_forms None None = on_registers_size y to op a b

base_size : (y : Layout) (d : ℕ) (a : Operand Location) (o : Immediate) → Instructions (operand_cost a) (base_items y d a o)
base_size y d (At p) o = fetch_size y d (At p)
base_size y d (Number n) o = fetch_size y d (Number n)
base_size y d (Name g) o = short refl refl

load_by_size : (op : LoadOp) (d : ℕ) (a : Operand Location) (o : Immediate) → Instructions 1 (load_by op d a o ∷ [])
load_by_size op d (At p) o = short refl refl
load_by_size op d (Number n) o = short refl refl
load_by_size op d (Name g) o = short refl refl

load_line_size : (y : Layout) (to : Location) (op : LoadOp) (at : MemoryAddress Location) → Instructions (operand_cost at.base + 1 + 3) (load_items y to op at)
load_line_size y to op at =
    fits (joined (base_size y 28 at.base at.offset) (joined (load_by_size op (target to) at.base at.offset) (deliver_size y to))) (omega arith)

store_by_size : (op : StoreOp) (v : ℕ) (a : Operand Location) (o : Immediate) → Instructions 1 (store_by op v a o ∷ [])
store_by_size op v (At p) o = short refl refl
store_by_size op v (Number n) o = short refl refl
store_by_size op v (Name g) o = short refl refl

store_line_size : (y : Layout) (size : Size) (a : Operand Location) (at : MemoryAddress Location)
    → Instructions (operand_cost a + operand_cost at.base + 1) (store_items y size a at)
store_line_size y size a at =
    fits (joined (fetch_size y 28 a) (joined (base_size y 29 at.base at.offset) (store_by_size (store_op size) (source 28 a) at.base at.offset))) (omega arith)

operand_at_most_9 : (a : Operand Location) → operand_cost a ≤ 9
operand_at_most_9 (At p) = lit≤ tt
operand_at_most_9 (Number n) = number_at_most_9 n
operand_at_most_9 (Name g) = lit≤ tt

pass_into_size : (y : Layout) (d : ℕ) (k : Class) (a : Operand Location) → Instructions (operand_cost a + 1) (pass_into y d k a)
pass_into_size y d L a = fits (into_size y d a) (omega arith)
pass_into_size y d W a = word_into_size y d a

passed_into_size : (y : Layout) (d : ℕ) (k : Class) (a : Operand Location) → Instructions 10 (pass_into y d k a)
passed_into_size y d k a = fits (pass_into_size y d k a) (let most = operand_at_most_9 a in omega (arith, most))

stack_size : (y : Layout) (k : ℕ) (a : Argument Location) → Instructions 11 (stack_items y k a)
stack_size y k a =
    either (nat_lt k 8) nothing (fits (joined (passed_into_size y 28 (passed_class a.extension a.class) a.value) (short {n = 1} refl refl)) (lit≤ tt))

stack_all_size : (y : Layout) (k : ℕ) (args : List (Argument Location)) → Instructions (11 * length args) (stack_all y k args)
stack_all_size y k [] = nothing
stack_all_size y k (a ∷ args) = fits (joined (stack_size y k a) (stack_all_size y (k + 1) args)) (omega arith)

register_size : (y : Layout) (k : ℕ) (a : Argument Location) → Instructions 10 (register_items y k a)
register_size y k a = either (nat_lt k 8) (passed_into_size y (10 + k) (passed_class a.extension a.class) a.value) nothing

register_all_size : (y : Layout) (k : ℕ) (args : List (Argument Location)) → Instructions (10 * length args) (register_all y k args)
register_all_size y k [] = nothing
register_all_size y k (a ∷ args) = fits (joined (register_size y k a) (register_all_size y (k + 1) args)) (omega arith)

moves_size : (k : ℕ) (args : List (Argument Location)) (o : Option ℕ) → Instructions 3 (moves_up k args o)
moves_size k args None = nothing
moves_size k args (Some r) = by_test (is_read (10 + k) args)
  where
    by_test : (b : Bool) → Instructions 3 (move_up k r b)
    by_test true = short refl refl
    by_test false = short refl refl

all_moves_size : (k : ℕ) (args : List (Argument Location)) → Instructions (3 * k) (all_move_up k args)
all_moves_size zero args = nothing
all_moves_size (suc k) args =
    let o : Option ℕ = earlier_at k args in
    fits (joined (moves_size k args o) (all_moves_size k (moved_up k args o))) (omega arith)

passed_size : (y : Layout) (args : List (Argument Location)) → Instructions (13 * length args) (passed_items y args)
passed_size y args =
    let same = moved_length (length args) args in
    fits (joined (all_moves_size (length args) args) (register_all_size y 0 (all_moved_up (length args) args))) (omega (arith, same))

callee_size : (y : Layout) (a : Operand Location) → Instructions 9 (callee_items y a)
callee_size y (At (InRegister r)) = either (nat_le 10 r && nat_le r 17) (short refl refl) nothing
callee_size y (At (Slot i)) = fits (fetch_size y 28 (At (Slot i))) (lit≤ tt)
callee_size y (Number n) = fits (fetch_size y 28 (Number n)) (number_at_most_9 n)
callee_size y (Name g) = nothing

prepare_size : (y : Layout) (callee : Operand Location) (args : List (Argument Location)) → Instructions (9 + 24 * length args) (prepare_items y callee args)
prepare_size y callee args = fits (joined (stack_all_size y 0 args) (joined (callee_size y callee) (passed_size y args))) (omega arith)

receive_size : (y : Layout) (to : Option (Destination Location)) → Instructions 6 (receive_items y to)
receive_size y None = nothing
receive_size y (Some d) = set_size y d.place (At (InRegister 10))

-- the three parts of a call, and its jump
pub call_parts : (y : Layout) (to : Option (Destination Location)) (callee : Operand Location) (args : List (Argument Location))
    → longest_size (prepare_items y callee args) + 2 + longest_size (receive_items y to) ≤ 20 + 24 * length args
call_parts y to callee args =
    let one = (prepare_size y callee args).few in
    let two = (receive_size y to).few in
    omega (arith, one, two)

through_size : (a : Operand Location) → Instructions 2 (call_through a)
through_size (At p) = short refl refl
through_size (Number n) = short refl refl
through_size (Name g) = short refl refl

call_size : (y : Layout) (to : Option (Destination Location)) (callee : Operand Location) (args : List (Argument Location))
    → Instructions (20 + 24 * length args) (call_items y to callee args)
call_size y to callee args = fits (joined (prepare_size y callee args) (joined (through_size callee) (receive_size y to))) (omega arith)

address_size : (d o : ℕ) → Instructions 3 (address_at d o)
address_size d o = either (nat_lt o 2048) (short refl refl) (short refl refl)

alloc_size : (y : Layout) (used : ℕ) (to : Option Location) → Instructions (3 + 3) (alloc_items y used to)
alloc_size y used None = nothing
alloc_size y used (Some to) = joined (address_size (target to) (y.area + used)) (deliver_size y to)

pairs_size : (a b o k : ℕ) → Instructions (4 * k) (copy_pairs a b o k)
pairs_size a b o zero = nothing
pairs_size a b o (suc k) = fits (joined (short {n = 4} {is = copy_pair a b o} refl refl) (pairs_size a b (o + 16) k)) (omega arith)

-- each part copies some byte
piece_size : (load : LoadOp) (store : StoreOp) (a b o : ℕ) (t : Bool) → Instructions (if t then 0 else 2) (if t then [] else copy_at load store a b o)
piece_size load store a b o true = nothing
piece_size load store a b o false = short refl refl

abbrev rest_most : ℕ → ℕ
rest_most n = (if nat_lt n 4 then 0 else 2) + ((if nat_lt (n % 4) 2 then 0 else 2) + (if nat_lt (n % 2) 1 then 0 else 2))

rest_size : (a b o n : ℕ) → Instructions (rest_most n) (copy_rest a b o n)
rest_size a b o n =
    joined (piece_size Lwu Sw a b o (nat_lt n 4))
    (joined (piece_size Lhu Sh a b (o + n / 4 * 4) (nat_lt (n % 4) 2)) (piece_size Lbu Sb a b (o + n / 2 * 2) (nat_lt (n % 2) 1)))

eight_most : (n : ℕ) → 4 * (n / 16) + (if nat_lt (n % 16) 8 then 0 else 2) ≤ 2 * (n / 8)
eight_most n = grind (arith, nat_tests)

bytes_size : (a b n : ℕ) → Instructions (2 * (n / 8) + rest_most (n % 8)) (copy_bytes a b n)
bytes_size a b n =
    let most = eight_most n in
    fits (joined (pairs_size a b 0 (n / 16)) (joined (piece_size Ld Sd a b (n / 16 * 16) (nat_lt (n % 16) 8)) (rest_size a b (n / 8 * 8) (n % 8)))) (omega (arith, most))

part_size : Instructions 512 copy_part
part_size =
    let none : rest_most (2040 % 8) ≡ 0 = refl in
    fits (joined (bytes_size 28 29 2040) (short {n = 2} {is = add_low 28 28 2040 ∷ add_low 29 29 2040 ∷ []} refl refl)) (omega (arith, none))

parts_size : (k : ℕ) → Instructions (512 * k) (copy_parts k)
parts_size zero = nothing
parts_size (suc k) = fits (joined part_size (parts_size k)) (omega arith)

rest_few : (n : ℕ) → n < 8 → (rest_most n ≤ 6) × (rest_most n ≤ 2 * n)
rest_few n few = (grind (arith, nat_tests), grind (arith, nat_tests))

near_blit_size : (y : Layout) (from to : Operand Location) (count : ℕ)
    → Instructions (operand_cost from + operand_cost to + 8 * ((count + 7) / 8)) (near_blit y from to count)
near_blit_size y from to count =
    let both = rest_few (count % 8) (omega arith) in
    let most = both.0 in
    let some = both.1 in
    fits (joined (fetch_size y 28 from) (joined (fetch_size y 29 to) (bytes_size (source 28 from) (source 29 to) count))) (omega (arith, most, some))

far_blit_size : (y : Layout) (from to : Operand Location) (count : ℕ) → 2048 ≤ count
    → Instructions (operand_cost from + operand_cost to + 8 * ((count + 7) / 8)) (far_blit y from to count)
far_blit_size y from to count many =
    let r : ℕ = count % 2040 in
    let most = (rest_few (r % 8) (omega arith)).0 in
    let all : 512 * (count / 2040) + (2 * (r / 8) + rest_most (r % 8)) ≤ 8 * ((count + 7) / 8) = omega (arith, most, many) in
    fits (joined (into_size y 28 from) (joined (into_size y 29 to) (joined (parts_size (count / 2040)) (bytes_size 28 29 r)))) (omega (arith, all))

blit_size : (y : Layout) (from to : Operand Location) (count : ℕ)
    → Instructions (operand_cost from + operand_cost to + 8 * ((count + 7) / 8)) (blit_items y from to count)
blit_size y from to count = by_test (nat_lt count 2048) refl
  where
    by_test : (t : Bool) → nat_lt count 2048 ≡ t
        → Instructions (operand_cost from + operand_cost to + 8 * ((count + 7) / 8)) (if t then near_blit y from to count else far_blit y from to count)
    by_test true e = near_blit_size y from to count
    by_test false e = far_blit_size y from to count (grind (arith, nat_tests))

pub line_size : (y : Layout) (used : ℕ) (l : Line Location) → Instructions (line_cost l) (line_items y used l)
line_size y used (Tick turn w) = nothing
line_size y used (Set to a) = set_size y to a
line_size y used (Operate to op a b) = operate_size y to op a b
line_size y used (Load to op at) = load_line_size y to op at
line_size y used (Store size a at) = store_line_size y size a at
line_size y used (Alloc to size) = alloc_size y used to
line_size y used (Blit from to count) = blit_size y from to count
line_size y used (Call to callee args) = call_size y to callee args

pub lines_alone : (y : Layout) (used : ℕ) (lines : List (Line Location)) → list_all is_instruction (lines_items y used lines) ≡ true
lines_alone y used [] = refl
lines_alone y used (l ∷ lines) =
    all_append is_instruction (line_items y used l) (lines_items y (used + alloc_bytes l) lines) (line_size y used l).alone (lines_alone y (used + alloc_bytes l) lines)

-- ---- the frame's begin and end

move_size : (n : ℕ) → Instructions 10 (move_pointer n)
move_size n = either (is_immediate n) (short refl refl) (fits (joined (constant_at_most_9 28 n) (short {n = 1} refl refl)) (lit≤ tt))

lower_size : (size : ℕ) → Instructions 10 (lower_pointer size)
lower_size size = either (nat_eq size 0) nothing (move_size (2 ^ 64 - size))

raise_size : (size : ℕ) → Instructions (raise_most size) (raise_pointer size)
raise_size size = by_test (nat_eq size 0) (is_immediate size)
  where
    by_test : (s t : Bool)
        → Instructions (if s then 0 else if t then 1 else 10) (if s then [] else if t then add_low 2 2 size ∷ [] else constant 28 size ++ (sum_to 2 2 28 ∷ []))
    by_test true t = nothing
    by_test false true = short refl refl
    by_test false false = joined (constant_at_most_9 28 size) (short {n = 1} refl refl)

raise_at_most_10 : (size : ℕ) → raise_most size ≤ 10
raise_at_most_10 size = by_test (nat_eq size 0) (is_immediate size)
  where
    by_test : (s t : Bool) → (if s then 0 else if t then 1 else 10) ≤ 10
    by_test true t = lit≤ tt
    by_test false true = lit≤ tt
    by_test false false = lit≤ tt

saves_size : (o : ℕ) (rs : List ℕ) → Instructions (length rs) (save_all o rs)
saves_size o [] = nothing
saves_size o (r ∷ rs) = fits (joined (short {n = 1} {is = store_8 r 2 o ∷ []} refl refl) (saves_size (o + 8) rs)) (omega arith)

restores_size : (o : ℕ) (rs : List ℕ) → Instructions (length rs) (restore_all o rs)
restores_size o [] = nothing
restores_size o (r ∷ rs) = fits (joined (short {n = 1} {is = load_8 r 2 o ∷ []} refl refl) (restores_size (o + 8) rs)) (omega arith)

pub prologue_size : (y : Layout) (rs : List ℕ) → length rs ≤ 13 → Instructions 23 (prologue y rs)
prologue_size y rs few = fits (joined (lower_size y.size) (saves_size y.saves rs)) (omega (arith, few))

end_size : (y : Layout) (rs : List ℕ) → Instructions (end_most y rs) (epilogue y rs)
end_size y rs = joined (restores_size y.saves rs) (joined (raise_size y.size) (short {n = 1} refl refl))

pub epilogue_size : (y : Layout) (rs : List ℕ) → length rs ≤ 13 → Instructions 24 (epilogue y rs)
epilogue_size y rs few = let raise = raise_at_most_10 y.size in fits (end_size y rs) (omega (arith, few, raise))

-- ---- jumps

pub result_size : (y : Layout) (k : Option Class) (a : ReturnValue Location) → Instructions (operand_cost a.value + 1) (result_items y k a)
result_size y None a = nothing
result_size y (Some k) a = pass_into_size y 10 (passed_class a.extension k) a.value

pub goto_size : (y : Layout) (next l : ℕ) → longest_size (goto_items y next l) ≤ 2
goto_size y next l = by_test (y.falls && nat_eq l next)
  where
    by_test : (b : Bool) → longest_size (if b then [] else GoTo l ∷ []) ≤ 2
    by_test true = lit≤ tt
    by_test false = lit≤ tt

ways_size : (y : Layout) (next : ℕ) (on : Condition) (v w met otherwise : ℕ) → longest_size (ways_items y next on v w met otherwise) ≤ 5
ways_size y next on v w met otherwise = by_test (y.falls && nat_eq met next)
  where
    by_test : (b : Bool)
        → longest_size (if b then branch_when (inverted on) v w otherwise ∷ [] else branch_when on v w met ∷ goto_items y next otherwise) ≤ 5
    by_test true = let e = branch_size (inverted on) v w otherwise [] in omega (arith, e)
    by_test false = let h = goto_size y next otherwise in let e = branch_size on v w met (goto_items y next otherwise) in omega (arith, h, e)

-- an operand that is compared takes one more where it is a word
abbrev word_more : Class → ℕ
word_more W = 1
word_more L = 0

pub compared_size : (y : Layout) (on : Condition) (k : Class) (d : ℕ) (a : Operand Location) → Instructions (operand_cost a + word_more k) (operand_into y (Compare on k) d a)
compared_size y on L d a = fits (fetch_size y d a) (omega arith)
compared_size y on W d a = word_fetch_size y d a

branch_pays : (k : Class) → 2 * word_more k + 5 ≤ branch_cost k
branch_pays W = lit≤ tt
branch_pays L = lit≤ tt

pub branch_items_size : (y : Layout) (next : ℕ) (c : Comparison Location) (met otherwise : ℕ)
    → longest_size (branch_items y next c met otherwise) ≤ operand_cost c.left + operand_cost c.right + branch_cost c.class
branch_items_size y next c met otherwise =
    let v = compared_source c 28 c.left in
    let w = compared_source c 29 c.right in
    let ways = ways_items y next c.condition v w met otherwise in
    let all = longest-append (compared_into y c 28 c.left) (compared_into y c 29 c.right ++ ways) in
    let rest = longest-append (compared_into y c 29 c.right) ways in
    let h = (compared_size y c.condition c.class 28 c.left).few in
    let k = (compared_size y c.condition c.class 29 c.right).few in
    let more = ways_size y next c.condition v w met otherwise in
    let pays = branch_pays c.class in
    omega (arith, all, rest, h, k, more, pays)

-- where so much is left for the jump
leave_size : (y : Layout) (rs : List ℕ) (next left : ℕ) → 2 ≤ left → longest_size (leave_items y rs next left) ≤ left
leave_size y rs next left two = by_test (copies_end y rs left) refl (not (y.falls && nat_eq y.leave next))
  where
    there : longest_size (goto_items y next y.leave) ≤ left
    there = let size = goto_size y next y.leave in omega (arith, size, two)

    by_test : (t : Bool) → copies_end y rs left ≡ t → (u : Bool) → longest_size (if t && u then epilogue y rs else goto_items y next y.leave) ≤ left
    by_test true e true =
        let size = (end_size y rs).few in
        let pays = leb-true (end_most y rs) left (and_parts (nat_le (length rs) 4) (nat_le (end_most y rs) left) e).1 in
        omega (arith, size, pays)
    by_test true e false = there
    by_test false e u = there

jump_size : (y : Layout) (rs : List ℕ) (next left : ℕ) (j : Jump Location) → jump_cost j ≤ left → longest_size (jump_items y rs next left j) ≤ left
jump_size y rs next left (Goto k) pays = let size = goto_size y next k in omega (arith, size, pays)
jump_size y rs next left (Branch c met otherwise) pays = let size = branch_items_size y next c met otherwise in omega (arith, size, pays)
jump_size y rs next left (Return None) pays = leave_size y rs next left pays
jump_size y rs next left (Return (Some a)) pays =
    let all = longest-append (result_items y y.result a) (leave_items y rs next (left_by_value left)) in
    let h = (result_size y y.result a).few in
    let nine = operand_at_most_9 a.value in
    let more = leave_size y rs next (left_by_value left) (omega arith) in
    omega (arith, all, h, nine, more, pays)
jump_size y rs next left Halt pays = pays

-- ---- blocks

-- what lines take, and what they leave for the jump
pub record LinesFit (y : Layout) (used credit : ℕ) (j : Jump Location) (lines : List (Line Location)) : Type 0 where
  pub few : longest_size (lines_items y used lines) + left_behind credit lines ≤ credit + 32 * sum_by weight_of lines
  pub pays : jump_cost j ≤ left_behind credit lines

-- after a line that is no tick
fits_more : (y : Layout) (used credit : ℕ) (j : Jump Location) (l : Line Location) (lines : List (Line Location)) → weight_of l ≡ 0 → left_by credit l ≡ credit - line_cost l
    → (nat_le (line_cost l) credit && affords (credit - line_cost l) j lines) ≡ true
    → (affords (credit - line_cost l) j lines ≡ true → LinesFit y (used + alloc_bytes l) (credit - line_cost l) j lines)
    → LinesFit y used credit j (l ∷ lines)
fits_more y used credit j l lines light left paid rest =
    let parts = and_parts (nat_le (line_cost l) credit) (affords (credit - line_cost l) j lines) paid in
    let enough = leb-true (line_cost l) credit parts.0 in
    let others = rest parts.1 in
    let few = others.few in
    let pays = others.pays in
    let same = ap (λ n. left_behind n lines) left in
    let sum = sum_by-cons weight_of l lines in
    let all = longest-append (line_items y used l) (lines_items y (used + alloc_bytes l) lines) in
    let size = (line_size y used l).few in
    record { few = omega (arith, enough, few, same, sum, all, size, light); pays = omega (arith, pays, same) }

lines_size : (y : Layout) (used credit : ℕ) (j : Jump Location) (lines : List (Line Location)) → affords credit j lines ≡ true → LinesFit y used credit j lines
lines_size y used credit j [] paid = record { few = omega arith; pays = leb-true (jump_cost j) credit paid }
lines_size y used credit j (Tick turn w ∷ lines) paid =
    let others = lines_size y (used + 0) (credit + 32 * w) j lines paid in
    let few = others.few in
    let sum = sum_by-cons weight_of (Tick turn w) lines in
    record { few = omega (arith, few, sum); pays = others.pays }
lines_size y used credit j (Set to a ∷ lines) paid =
    fits_more y used credit j (Set to a) lines refl refl paid (lines_size y (used + 0) (credit - line_cost (Set to a)) j lines)
lines_size y used credit j (Operate to op a b ∷ lines) paid =
    fits_more y used credit j (Operate to op a b) lines refl refl paid (lines_size y (used + 0) (credit - line_cost (Operate to op a b)) j lines)
lines_size y used credit j (Load to op at ∷ lines) paid =
    fits_more y used credit j (Load to op at) lines refl refl paid (lines_size y (used + 0) (credit - line_cost (Load to op at)) j lines)
lines_size y used credit j (Store size a at ∷ lines) paid =
    fits_more y used credit j (Store size a at) lines refl refl paid (lines_size y (used + 0) (credit - line_cost (Store size a at)) j lines)
lines_size y used credit j (Alloc to size ∷ lines) paid =
    fits_more y used credit j (Alloc to size) lines refl refl paid (lines_size y (used + round_16 size) (credit - line_cost (Alloc to size)) j lines)
lines_size y used credit j (Blit from to count ∷ lines) paid =
    fits_more y used credit j (Blit from to count) lines refl refl paid (lines_size y (used + 0) (credit - line_cost (Blit from to count)) j lines)
lines_size y used credit j (Call to callee args ∷ lines) paid =
    fits_more y used credit j (Call to callee args) lines refl refl paid (lines_size y (used + 0) (credit - line_cost (Call to callee args)) j lines)

abbrev pub block_weight : Block Location → ℕ
block_weight b = sum_by weight_of b.lines

blocks_size : (y : Layout) (rs : List ℕ) (k : ℕ) (blocks : List (Block Location)) → list_all is_paid blocks ≡ true
    → longest_size (blocks_items y rs k blocks) ≤ 32 * sum_by block_weight blocks
blocks_size y rs k [] good = omega arith
blocks_size y rs k (b ∷ blocks) good =
    let parts = and_parts (is_paid b) (list_all is_paid blocks) good in
    let lines = lines_size y 0 0 b.jump b.lines parts.0 in
    let few = lines.few in
    let jump = jump_size y rs (k + 1) (left_behind 0 b.lines) b.jump lines.pays in
    let two = longest-append (lines_items y 0 b.lines) (end_items y rs k b) in
    let all = longest-append (body_items y rs k b) (blocks_items y rs (k + 1) blocks) in
    let others = blocks_size y rs (k + 1) blocks parts.1 in
    let sum = sum_by-cons block_weight b blocks in
    omega (arith, few, jump, two, all, others, sum)

-- ---- arguments come to the places of their parameters

near_store : (y : Layout) (v i : ℕ) → y.slots < 1024 → is_near (Slot i) ≡ true → Instructions 1 (store_slot v (slot_offset y i))
near_store y v i few near =
    let close : nat_lt (slot_offset y i) 2048 ≡ true = grind (arith, nat_tests) in
    subst (λ (t : Bool). Instructions 1 (if t then store_8 v 2 (slot_offset y i) ∷ [] else far_store v (slot_offset y i))) (sym close) (short refl refl)

argument_size : (y : Layout) (k : ℕ) (p : Location) → y.slots < 1024 → is_near p ≡ true → Instructions 2 (argument_items y k p)
argument_size y k (InRegister r) few near = either (nat_lt k 8) (short refl refl) (short refl refl)
argument_size y k (Slot i) few near =
    either (nat_lt k 8) (fits (near_store y (10 + k) i few near) (lit≤ tt))
    (joined (short {n = 1} {is = load_8 28 30 (8 * (k - 8)) ∷ []} refl refl) (near_store y 28 i few near))

-- at most eight arguments go away
away_size : (y : Layout) (k : ℕ) (ds : List (Destination Location)) → y.slots < 1024 → are_near ds ≡ true
    → Instructions (2 * (8 - k)) (arguments_items y goes_away k ds)
away_size y k [] few near = nothing
away_size y k (d ∷ ds) few near =
    let parts = and_parts (is_near d.place) (are_near ds) near in
    fits (joined (first (nat_lt k 8) refl (not (is_for_arguments d.place)) parts.0) (away_size y (k + 1) ds few parts.1)) (omega arith)
  where
    first : (p : Bool) → nat_lt k 8 ≡ p → (q : Bool) → is_near d.place ≡ true
        → Instructions (2 * (8 - k) - 2 * (8 - (k + 1))) (if p && q then argument_items y k d.place else [])
    first true e true close = let low : k < 8 = grind (arith, nat_tests) in fits (argument_size y k d.place few close) (omega (arith, low))
    first true e false close = nothing
    first false e q close = nothing

stacked_size : (y : Layout) (k : ℕ) (ds : List (Destination Location)) → y.slots < 1024 → are_near ds ≡ true
    → Instructions (2 * length ds) (arguments_items y is_on_stack k ds)
stacked_size y k [] few near = nothing
stacked_size y k (d ∷ ds) few near =
    let parts = and_parts (is_near d.place) (are_near ds) near in
    fits (joined (either (is_on_stack k d.place) (argument_size y k d.place few parts.0) nothing) (stacked_size y (k + 1) ds few parts.1)) (omega arith)

-- a value of 64 bits in a place
abbrev is_held_long : Class → Operand Location → Bool
is_held_long L (At p) = true
is_held_long L (Number n) = false
is_held_long L (Name g) = false
is_held_long W a = false

abbrev is_long : Argument Location → Bool
is_long a = is_held_long (passed_class a.extension a.class) a.value

long_size : (y : Layout) (d : ℕ) (k : Class) (a : Operand Location) → is_held_long k a ≡ true → Instructions 3 (pass_into y d k a)
long_size y d L (At p) h = into_size y d (At p)
long_size y d L (Number n) h = absurd (let no : ⊥ = cc in no)
long_size y d L (Name g) h = absurd (let no : ⊥ = cc in no)
long_size y d W a h = absurd (let no : ⊥ = cc in no)

longs_size : (y : Layout) (k : ℕ) (args : List (Argument Location)) → list_all is_long args ≡ true → Instructions (3 * length args) (register_all y k args)
longs_size y k [] h = nothing
longs_size y k (a ∷ args) h =
    let parts = and_parts (is_long a) (list_all is_long args) h in
    let one = either (nat_lt k 8) (long_size y (10 + k) (passed_class a.extension a.class) a.value parts.0) nothing in
    fits (joined one (longs_size y (k + 1) args parts.1)) (omega arith)

still_long : (a b : ℕ) (k : Class) (x : Operand Location) → is_held_long k (operand_exchanged a b x) ≡ is_held_long k x
still_long a b L (At p) = refl
still_long a b L (Number n) = refl
still_long a b L (Name g) = refl
still_long a b W x = refl

longs_exchanged : (a b : ℕ) (args : List (Argument Location)) → list_all is_long args ≡ true → list_all is_long (exchange a b args) ≡ true
longs_exchanged a b [] h = refl
longs_exchanged a b (x ∷ args) h =
    let parts = and_parts (is_long x) (list_all is_long args) h in
    and_from (is_long (argument_exchanged a b x)) (list_all is_long (exchange a b args)) (still_long a b (passed_class x.extension x.class) x.value ∙ parts.0)
    (longs_exchanged a b args parts.1)

settled_long : (n : ℕ) (k : Class) (x : Operand Location) → is_held_long k x ≡ true → is_held_long k (At (InRegister n)) ≡ true
settled_long n L x h = refl
settled_long n W x h = absurd (let no : ⊥ = cc in no)

longs_settled : (n k : ℕ) (args : List (Argument Location)) → list_all is_long args ≡ true → list_all is_long (settled n k args) ≡ true
longs_settled n k [] h = refl
longs_settled n zero (x ∷ args) h =
    let parts = and_parts (is_long x) (list_all is_long args) h in
    and_from (is_held_long (passed_class x.extension x.class) (At (InRegister n))) (list_all is_long args) (settled_long n (passed_class x.extension x.class) x.value parts.0) parts.1
longs_settled n (suc k) (x ∷ args) h =
    let parts = and_parts (is_long x) (list_all is_long args) h in
    and_from (is_long x) (list_all is_long (settled n k args)) parts.0 (longs_settled n k args parts.1)

longs_up : (k : ℕ) (args : List (Argument Location)) (o : Option ℕ) → list_all is_long args ≡ true → list_all is_long (moved_up k args o) ≡ true
longs_up k args None h = h
longs_up k args (Some r) h = by_read (is_read (10 + k) args)
  where
    by_read : (t : Bool) → list_all is_long (arrived k r t args) ≡ true
    by_read true = longs_exchanged (10 + k) r args h
    by_read false = longs_settled (10 + k) k args h

longs_all_up : (k : ℕ) (args : List (Argument Location)) → list_all is_long args ≡ true → list_all is_long (all_moved_up k args) ≡ true
longs_all_up zero args h = h
longs_all_up (suc k) args h = longs_all_up k (moved_up k args (earlier_at k args)) (longs_up k args (earlier_at k args) h)

sources_long : (count i : ℕ) (ds : List (Destination Location)) → list_all is_long (sources count i ds) ≡ true
sources_long zero i ds = refl
sources_long (suc n) i ds = sources_long n (i + 1) ds

exchanges_size : (y : Layout) (ds : List (Destination Location)) → Instructions 48 (passed_items y (sources 8 0 ds))
exchanges_size y ds =
    let args : List (Argument Location) = sources 8 0 ds in
    let long = longs_all_up (length args) args (sources_long 8 0 ds) in
    let same = moved_length (length args) args in
    let eight = sources_length 8 0 ds in
    fits (joined (all_moves_size (length args) args) (longs_size y 0 (all_moved_up (length args) args) long)) (omega (arith, same, eight))

pointer_size : (y : Layout) (params : ℕ) → Instructions 10 (pointer_items y params)
pointer_size y params = either (nat_lt 8 params) (fits (joined (constant_at_most_9 30 y.size) (short {n = 1} refl refl)) (lit≤ tt)) nothing

pub entry_size : (y : Layout) (params : List (Destination Location)) → y.slots < 1024 → length params ≤ 64 → are_near params ≡ true
    → Instructions 202 (entry_items y params)
entry_size y params few at_most near =
    fits
    (joined (pointer_size y (length params))
    (joined (away_size y 0 params few near) (joined (exchanges_size y params) (stacked_size y 0 params few near))))
    (omega (arith, at_most))

-- ---- functions

pub function_size : (y : Layout) (rs : List ℕ) (params : List (Destination Location)) (blocks : List (Block Location)) → length rs ≤ 13 → y.slots < 1024
    → length params ≤ 64 → are_near params ≡ true → list_all is_paid blocks ≡ true
    → longest_size (function_items y rs params blocks) ≤ 32 * sum_by block_weight blocks + 249
function_size y rs params blocks saved few at_most near good =
    let body : List Item = blocks_items y rs 0 blocks ++ (Label y.leave ∷ epilogue y rs) in
    let all = longest-append (prologue y rs) (entry_items y params ++ body) in
    let entry = longest-append (entry_items y params) body in
    let more = longest-append (blocks_items y rs 0 blocks) (Label y.leave ∷ epilogue y rs) in
    let one = (prologue_size y rs saved).few in
    let between = (entry_size y params few at_most near).few in
    let two = (epilogue_size y rs saved).few in
    let three = blocks_size y rs 0 blocks good in
    omega (arith, all, entry, more, one, between, two, three)

pub function_small : (f : Code Location) (slots : ℕ) → IsCode f slots
    → longest_size (function_items (layout f slots) (saved_registers f) f.params f.blocks) ≤ 32 * code_weight f + 249
function_small f slots is =
    let at_most = leb-true (length f.params) 64 is.regular.few_params in
    function_size (layout f slots) (saved_registers f) f.params f.blocks (few_saved_registers f) (slots_near f is.regular) at_most is.near is.regular.paid
