-- Code with a place for each register: operands, lines, jumps and blocks, place by place.
use Rattle.std.specs.Prelude.{ℕ, map, option_map}
use Rattle.vcode.specs.declared.place.Location.{Location}
use Rattle.vcode.specs.declared.place.Location.TheVariants.{Slot}
use Rattle.vcode.specs.declared.place.Operand.{Operand}
use Rattle.vcode.specs.declared.place.ReturnValue.{ReturnValue}
use Rattle.vcode.specs.declared.place.Address.{Address}
use Rattle.vcode.specs.declared.place.Operand.TheVariants.{At, Number, Name}
use Rattle.vcode.specs.declared.place.Destination.{Destination}
use Rattle.vcode.specs.declared.place.Argument.{Argument}
use Rattle.vcode.specs.declared.line.Line.{Line}
use Rattle.vcode.specs.declared.line.Line.TheVariants.{Tick, Set, Operate, Load, Store, Alloc, Blit, Call}
use Rattle.vcode.specs.declared.line.Comparison.{Comparison}
use Rattle.vcode.specs.declared.line.Jump.{Jump}
use Rattle.vcode.specs.declared.line.Jump.TheVariants.{Goto, Branch, Return, Halt}
use Rattle.vcode.specs.declared.code.Block.{Block}
use Rattle.vcode.specs.declared.code.Code.{Code}

-- where each register is
abbrev pub Layout : Type 0
Layout = ℕ → Location

abbrev pub placed_operand : Layout → Operand ℕ → Operand Location
placed_operand f (At r) = At (f r)
placed_operand f (Number n) = Number n
placed_operand f (Name g) = Name g

abbrev pub placed_address : Layout → Address ℕ → Address Location
placed_address f at = record { base = placed_operand f at.base; offset = at.offset }

abbrev pub placed_argument : Layout → Argument ℕ → Argument Location
placed_argument f a =
    record { class = a.class; value = placed_operand f a.value; extension = a.extension }

abbrev pub placed_returned : Layout → ReturnValue ℕ → ReturnValue Location
placed_returned f a = record { value = placed_operand f a.value; extension = a.extension }

abbrev pub placed_destination : Layout → Destination ℕ → Destination Location
placed_destination f d = record { place = f d.place; class = d.class }

abbrev pub placed_line : Layout → Line ℕ → Line Location
placed_line f (Tick turn w) = Tick turn w
placed_line f (Set to a) = Set (f to) (placed_operand f a)
placed_line f (Operate to op a b) = Operate (f to) op (placed_operand f a) (placed_operand f b)
placed_line f (Load to op at) = Load (f to) op (placed_address f at)
placed_line f (Store size a at) = Store size (placed_operand f a) (placed_address f at)
placed_line f (Alloc to size) = Alloc (option_map f to) size
placed_line f (Blit from to count) = Blit (placed_operand f from) (placed_operand f to) count
placed_line f (Call to callee args) =
    Call (option_map (placed_destination f) to) (placed_operand f callee)
    (map (placed_argument f) args)

abbrev pub placed_comparison : Layout → Comparison ℕ → Comparison Location
placed_comparison f c =
    record {
      condition = c.condition;
      class = c.class;
      left = placed_operand f c.left;
      right = placed_operand f c.right;
    }

abbrev pub placed_jump : Layout → Jump ℕ → Jump Location
placed_jump f (Goto k) = Goto k
placed_jump f (Branch on met otherwise) = Branch (placed_comparison f on) met otherwise
placed_jump f (Return a) = Return (option_map (placed_returned f) a)
placed_jump f Halt = Halt

abbrev pub placed_block : Layout → Block ℕ → Block Location
placed_block f b = record { lines = map (placed_line f) b.lines; jump = placed_jump f b.jump }

-- the code with register i in slot i, everywhere
abbrev pub in_slots : Code ℕ → Code Location
in_slots v =
    record {
      result = v.result;
      params = map (placed_destination Slot) v.params;
      blocks = map (placed_block Slot) v.blocks;
    }
