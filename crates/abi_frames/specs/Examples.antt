-- Small codes that frames are made for.
use Rattle.std.specs.Prelude.{◌≡◌, ℕ, ◌+◌, ◌*◌, ◌^◌, ◌<◌, ◌≤◌, List, IsTrue, nat_le, length, [], ◌∷◌, Some, true}
use Rattle.il_ast.specs.declared.limits.TheConstants.{FUNCTION_WEIGHT}
use Rattle.vcode.specs.declared.limits.TheConstants.{PLACES}
use Rattle.rv_isa.specs.Prelude.{IsLabelled, longest_size}
use Rattle.vcode.specs.declared.place.Location.{Location}
use Rattle.vcode.specs.declared.code.Code.{Code}
use Rattle.vcode.specs.Prelude.{located, keeps_places, is_place, are_near, are_distinct, IsRegular, code_weight, at_once, block, code, destination, returned}
use Rattle.abi_frames.specs.Functions.{IsFrameOf, frame_items, marked_code}
use Rattle.abi_frames.specs.Performs.{frame_size}
use Rattle.frame_ways.specs.declared.mark.Mark.{Mark}
use Rattle.frame_ways.specs.Plans.{IsMarked}
use Rattle.frame_ways.specs.Keeping.{IsMarkedOf}
use Rattle.il_ast.specs.declared.operation.Class.{Class}
use Rattle.il_ast.specs.declared.operation.Class.TheVariants.{W, L}
use Rattle.il_ast.specs.declared.operation.Condition.TheVariants.{NotEqual, SignedLess}
use Rattle.il_ast.specs.declared.operation.Size.TheVariants.{Long}
use Rattle.rv_isa.specs.declared.instruction.LoadOp.TheVariants.{Ld}
use Rattle.rv_isa.specs.declared.instruction.RegOp.TheVariants.{Add}
use Rattle.vcode.specs.declared.place.Location.TheVariants.{Register, Slot}
use Rattle.vcode.specs.declared.place.Argument.{Argument}
use Rattle.vcode.specs.declared.place.Extension.TheVariants.{Made}
use Rattle.vcode.specs.declared.place.Operand.{Operand}
use Rattle.vcode.specs.declared.place.Operand.TheVariants.{At, Number}
use Rattle.vcode.specs.declared.line.Operation.TheVariants.{Reg, Compare}
use Rattle.vcode.specs.declared.line.Line.TheVariants.{Tick, Set, Operate, Call, Load, Store, Alloc, Blit}
use Rattle.vcode.specs.declared.line.Jump.TheVariants.{Goto, Branch, Return}

-- ---- what is proved of the code of frames

-- the code of a function, with places as location code has them
pub record IsCode (f : Code Location) (slots : ℕ) : Type 0 where
  pub few : slots < PLACES
  pub regular : IsRegular f
  pub known : IsTrue (keeps_places (is_place slots) f)
  pub near : IsTrue (are_near f.params)
  pub apart : IsTrue (are_distinct located f.params)
  pub light : IsTrue (nat_le (code_weight f) FUNCTION_WEIGHT)

-- its labelled code keeps the invariants of such code, within its price
abbrev pub FramesAreLabelled : Type 0
FramesAreLabelled =
    (f : Code Location) (slots : ℕ) → IsCode f slots
    → IsLabelled (record { items = frame_items f slots; labels = length f.blocks + 2 })

abbrev pub FramesAreSmall : Type 0
FramesAreSmall =
    (f : Code Location) (slots : ℕ) → IsCode f slots →
    longest_size (frame_items f slots) ≤ 32 * code_weight f + 256

-- and performs what the code on bytes runs
abbrev pub FramesPerform : Type 0
FramesPerform =
    (f : Code Location) (slots : ℕ) → IsCode f slots
    → IsFrameOf f slots (frame_items f slots)

-- ---- code with marks

abbrev pub MarkedAreLabelled : Type 0
MarkedAreLabelled =
    (f : Code Location) (slots : ℕ) (marks : List Mark) → IsMarked f slots marks
    → longest_size (marked_code f slots marks) < 2 ^ 28
    → IsLabelled
    (record { items = marked_code f slots marks; labels = length f.blocks + 2 })

-- what was made of f performs what f runs, in a frame as large
abbrev pub MarkedPerform : Type 0
MarkedPerform =
    (f : Code Location) (slots : ℕ) (g : Code Location) (marks : List Mark) → IsCode f slots
    → IsMarkedOf f slots g marks
    → frame_size g slots ≡ frame_size f slots
    → IsFrameOf f slots (marked_code g slots marks)

abbrev argument : Class → Operand Location → Argument Location
argument k a = record { class = k; value = a; extension = Made }

-- counts in a slot up to 10
abbrev pub counter : Code Location
counter =
    code (Some L) []
    (block (Tick true 1 ∷ Set (Slot 0) (Number 0) ∷ []) (Goto 1)
    ∷ block
    (Tick true 2
    ∷ Operate (Slot 0) (Reg Add) (At (Slot 0)) (Number 1)
    ∷ Operate (Register 8) (Compare SignedLess L) (At (Slot 0)) (Number 10)
    ∷ [])
    (Branch (record { condition = NotEqual; class = L; left = At (Register 8); right = Number 0 }) 1
    2)
    ∷ block (Tick true 1 ∷ []) (Return (returned (At (Slot 0))))
    ∷ [])

-- returns its ninth argument, which is passed on the stack
abbrev pub ninth : Code Location
ninth =
    code (Some W)
    (destination (Slot 0) L
    ∷ destination (Register 9) W
    ∷ destination (Slot 2) L
    ∷ destination (Slot 3) L
    ∷ destination (Slot 4) L
    ∷ destination (Slot 5) L
    ∷ destination (Slot 6) L
    ∷ destination (Slot 7) L
    ∷ destination (Slot 8) W
    ∷ [])
    (block (Tick true 1 ∷ []) (Return (returned (At (Slot 8)))) ∷ [])

-- calls the function whose address it is given, with a word and that address, and returns what it
-- returns
abbrev pub caller : Code Location
caller =
    code (Some W) (destination (Slot 0) L ∷ [])
    (block
    (Tick true 4
    ∷ Call (Some (destination (Register 9) W)) (At (Slot 0))
    (argument W (Number 7) ∷ argument L (At (Slot 0)) ∷ [])
    ∷ [])
    (Return (returned (At (Register 9))))
    ∷ [])

-- makes two blocks of memory, stores a number into one, copies its 15 bytes into the other, and
-- returns what stands there
abbrev pub copier : Code Location
copier =
    code (Some L) []
    (block
    (Tick true 4
    ∷ Alloc (Some (Slot 0)) 15
    ∷ Alloc (Some (Register 8)) 15
    ∷ Store Long (Number 7) (at_once (At (Slot 0)))
    ∷ Blit (At (Slot 0)) (At (Register 8)) 15
    ∷ Load (Register 9) Ld (at_once (At (Register 8)))
    ∷ [])
    (Return (returned (At (Register 9))))
    ∷ [])

-- the premises of the laws hold of these; and so many words the code of the first has at most
pub record Examples : Type 0 where
  pub is_code : IsCode counter 1
  pub takes_nine : IsCode ninth 9
  pub makes_a_call : IsCode caller 1
  pub copies_bytes : IsCode copier 1
  pub size : longest_size (frame_items counter 1) ≡ 15
