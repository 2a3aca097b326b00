-- The machine code of a whole function: the begin of its frame, what brings its arguments to the
-- places of its parameters, its blocks, and the end of the frame.
use Rattle.std.specs.Prelude.{ℕ, zero, suc, ◌+◌, ◌-◌, ◌*◌, Bool, false, not, ◌&&◌, nat_le, nat_lt, if◌then◌else◌, List, [], ◌∷◌, ◌++◌, length}
use Rattle.rv_isa.specs.declared.abi.TheConstants.{STACK_POINTER, FIRST_ARGUMENT, LAST_ARGUMENT, ARGUMENT_REGISTERS, FIRST_SCRATCH, THIRD_SCRATCH}
use Rattle.rv_isa.specs.declared.labelled.Item.{Item}
use Rattle.rv_isa.specs.declared.labelled.Item.TheVariants.{Label}
use Rattle.vcode.specs.declared.place.Location.{Location}
use Rattle.vcode.specs.declared.place.Location.TheVariants.{Register as InRegister, Slot}
use Rattle.vcode.specs.declared.place.Destination.{Destination}
use Rattle.vcode.specs.declared.place.Argument.{Argument}
use Rattle.vcode.specs.declared.place.Extension.TheVariants.{Made}
use Rattle.vcode.specs.declared.place.Operand.TheVariants.{At}
use Rattle.il_ast.specs.declared.operation.Class.TheVariants.{L}
use Rattle.vcode.specs.declared.code.Block.{Block}
use Rattle.vcode.specs.declared.code.Code.{Code}
use Rattle.vcode.specs.Prelude.{code_weight, classes_in, area}
use Rattle.abi_frames.specs.Performs.{is_register, layout, saved_registers, frame_bound, frame_size, FramePromise}
use Rattle.abi_frames.specs.declared.layout.Layout.{Layout}
use Rattle.operation_code.specs.Constants.{add_low, sum_to, load_8, constant}
use Rattle.abi_frames.specs.Emission.{passed_items, store_slot, slot_offset, prologue, epilogue, blocks_items, body_items, rows}
use Rattle.frame_ways.specs.declared.mark.Mark.{Mark}
use Rattle.frame_ways.specs.declared.mark.Mark.TheVariants.{Bare, Begin, Framed}
use Rattle.frame_ways.specs.Plans.{mark_at}
use Rattle.flat_code.specs.Step.{flat_begin, flat_step}

-- the caller's stack pointer into x30
abbrev pub caller_pointer : Layout → List Item
caller_pointer y =
    constant THIRD_SCRATCH y.size ++ (sum_to THIRD_SCRATCH THIRD_SCRATCH STACK_POINTER ∷ [])

-- an argument that is passed in a register, into a place in which none is
abbrev pub from_register : Layout → (argument : ℕ) → Location → List Item
from_register y k (InRegister r) = add_low r (FIRST_ARGUMENT + k) 0 ∷ []
from_register y k (Slot i) = store_slot (FIRST_ARGUMENT + k) (slot_offset y i)

-- one that is passed on the stack, in eight bytes from the caller's stack pointer upward
abbrev pub from_stack : Layout → (argument : ℕ) → Location → List Item
from_stack y k (InRegister r) = load_8 r THIRD_SCRATCH (8 * (k - ARGUMENT_REGISTERS)) ∷ []
from_stack y k (Slot i) =
    load_8 FIRST_SCRATCH THIRD_SCRATCH (8 * (k - ARGUMENT_REGISTERS))
    ∷ store_slot FIRST_SCRATCH (slot_offset y i)

-- the first eight arguments are passed in x10 to x17
abbrev pub argument_items : Layout → (argument : ℕ) → Location → List Item
argument_items y k p = if nat_lt k ARGUMENT_REGISTERS then from_register y k p else from_stack y k p

-- those arguments that pass the test
abbrev pub arguments_items : Layout → (test : ℕ → Location → Bool) → (argument : ℕ) →
    List (Destination Location) → List Item
arguments_items y test k [] = []
arguments_items y test k (d ∷ ds) =
    (if test k d.place then argument_items y k d.place else []) ++ arguments_items y test (k + 1) ds

-- a register in which an argument is passed
abbrev pub is_for_arguments : Location → Bool
is_for_arguments (InRegister r) = nat_le FIRST_ARGUMENT r && nat_le r LAST_ARGUMENT
is_for_arguments (Slot i) = false

-- passed in a register, to a place elsewhere
abbrev pub goes_away : (argument : ℕ) → Location → Bool
goes_away k p = nat_lt k ARGUMENT_REGISTERS && not (is_for_arguments p)

abbrev pub is_on_stack : (argument : ℕ) → Location → Bool
is_on_stack k p = nat_le ARGUMENT_REGISTERS k

-- passed in a register, to the place x(10 + i)
abbrev pub comes_to : (i argument : ℕ) → Location → Bool
comes_to i k p = nat_lt k ARGUMENT_REGISTERS && is_register (FIRST_ARGUMENT + i) p

-- the register of the argument, of these from the k-th on, whose place is x(10 + i); else that
-- register itself
abbrev pub source_in : (i k : ℕ) → List (Destination Location) → ℕ
source_in i k [] = FIRST_ARGUMENT + i
source_in i k (d ∷ ds) = if comes_to i k d.place then FIRST_ARGUMENT + k else source_in i (k + 1) ds

-- what so many registers from x(10 + i) on take, as arguments of a call would be
abbrev pub sources : (count i : ℕ) → List (Destination Location) → List (Argument Location)
sources zero i ds = []
sources (suc n) i ds =
    record { class = L; value = At (InRegister (source_in i 0 ds)); extension = Made }
    ∷ sources n (i + 1) ds

abbrev pub pointer_items : Layout → (params : ℕ) → List Item
pointer_items y n = if nat_lt ARGUMENT_REGISTERS n then caller_pointer y else []

-- arguments in registers to places elsewhere, then those to places in one another's registers, and
-- last those on the stack
abbrev pub entry_items : Layout → List (Destination Location) → List Item
entry_items y params =
    pointer_items y (length params)
    ++ (arguments_items y goes_away 0 params
    ++ (passed_items y (sources ARGUMENT_REGISTERS 0 params)
    ++ arguments_items y is_on_stack 0 params))

abbrev pub function_items : Layout → (saved : List ℕ) → List (Destination Location) →
    List (Block Location) → List Item
function_items y rs params blocks =
    prologue y rs ++ (entry_items y params ++ (blocks_items y rs 0 blocks
    ++ (Label y.leave ∷ epilogue y rs)))

abbrev pub frame_items : Code Location → (slots : ℕ) → List Item
frame_items f slots = function_items (layout f slots) (saved_registers f) f.params f.blocks

-- the words that the code may have
abbrev pub price : Code Location → ℕ
price f = 32 * code_weight f + 256

-- ---- the machine code of code with marks. Bare blocks have no frame, and return where they stand; where
-- the frame begins for a block, that stands at its head.

-- there is no frame, and each return goes back
abbrev pub bare_layout : Layout → Layout
bare_layout y =
    record {
      saves = 0;
      slots = 0;
      area = 0;
      size = 0;
      result = y.result;
      leave = y.leave;
      falls = y.falls;
    }

-- beside a frame, whose end stands before the other end
abbrev pub outer_layout : Layout → Layout
outer_layout y = record (bare_layout y) { leave = y.leave + 1 }

abbrev pub part_items : Layout → (saved : List ℕ) → Mark → ℕ → Block Location → List Item
part_items y rs Bare k b = body_items (outer_layout y) [] k b
part_items y rs Begin k b = prologue y rs ++ body_items y rs k b
part_items y rs Framed k b = body_items y rs k b

abbrev pub marked_body : Layout → (saved : List ℕ) → List Mark → ℕ → Block Location → List Item
marked_body y rs marks k b = part_items y rs (mark_at marks k) k b

-- the end of the frame, and that of ways without one
abbrev pub ends_items : Layout → (saved : List ℕ) → List Item
ends_items y rs = epilogue y rs ++ (Label (y.leave + 1) ∷ epilogue (outer_layout y) [])

-- arguments come to the places of their parameters, and the blocks and the ends follow
abbrev pub marked_items : Layout → (saved : List ℕ) → List (Destination Location) → List Mark →
    List (Block Location) → List Item
marked_items y rs params marks blocks =
    entry_items (outer_layout y) params
    ++ (rows (λ l. l) (marked_body y rs marks) 0 blocks ++ (Label y.leave ∷ ends_items y rs))

abbrev pub marked_code : Code Location → (slots : ℕ) → List Mark → List Item
marked_code f slots marks =
    marked_items (layout f slots) (saved_registers f) f.params marks f.blocks

-- ---- what the labelled code of a function with its frame is to location code

-- It performs what the code, with so many slots, runs on bytes: in a frame of the size that the
-- layout says, of which a call is counted for no more than the bound.
abbrev pub IsFrameOf : Code Location → (slots : ℕ) → List Item → Type 0
IsFrameOf f slots items =
    FramePromise items (frame_bound f slots) (frame_size f slots) (area f) (classes_in f.params)
    f.result (λ addresses. flat_begin f)
    (λ addresses. flat_step f addresses)
