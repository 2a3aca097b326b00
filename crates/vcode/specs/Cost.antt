-- At most how many instructions of the machine a line becomes, wherever its places are; and that
-- the weight of ticks pays for them, 32 for each unit.
use Rattle.std.specs.Prelude.{ℕ, ◌+◌, ◌-◌, ◌*◌, ◌/◌, ◌%◌, ◌^◌, Bool, ◌&&◌, ◌||◌, nat_lt, nat_le, if◌then◌else◌, List, [], ◌∷◌, length, Option, Some, None}
use Rattle.il_ast.specs.declared.operation.Class.{Class}
use Rattle.il_ast.specs.declared.operation.Class.TheVariants.{W, L}
use Rattle.vcode.specs.declared.place.Operand.{Operand}
use Rattle.vcode.specs.declared.place.ReturnValue.{ReturnValue}
use Rattle.vcode.specs.declared.place.Operand.TheVariants.{At, Number, Name}
use Rattle.vcode.specs.declared.line.Operation.{Operation}
use Rattle.vcode.specs.declared.line.Operation.TheVariants.{Reg, RegW, Compare}
use Rattle.vcode.specs.declared.line.Line.{Line}
use Rattle.vcode.specs.declared.line.Line.TheVariants.{Tick, Set, Operate, Load, Store, Alloc, Blit, Call}
use Rattle.vcode.specs.declared.line.Jump.{Jump}
use Rattle.vcode.specs.declared.line.Jump.TheVariants.{Goto, Branch, Return, Halt}
use Rattle.vcode.specs.declared.code.Block.{Block}

-- a number that one immediate of 12 bits gives, modulo 2^64
abbrev pub is_immediate : ℕ → Bool
is_immediate n = nat_lt (n % 2 ^ 64) 2048 || nat_le (2 ^ 64 - 2048) (n % 2 ^ 64)

-- to have an operand in a register: from a far slot three, a number one or nine, an address two
abbrev pub operand_cost : {P : Type 0} → Operand P → ℕ
operand_cost (At p) = 3
operand_cost (Number n) = if is_immediate n then 1 else 9
operand_cost (Name g) = 2

-- from a register to a far slot
abbrev pub place_cost : ℕ
place_cost = 3

abbrev pub operation_cost : Operation → ℕ
operation_cost (Reg op) = 1
operation_cost (RegW op) = 1
operation_cost (Compare on k) = 6

abbrev pub line_cost : {P : Type 0} → Line P → ℕ
line_cost (Tick turn w) = 0
line_cost (Set to a) = operand_cost a + place_cost
line_cost (Operate to op a b) = operand_cost a + operand_cost b + operation_cost op + place_cost
line_cost (Load to op at) = operand_cost at.base + 1 + place_cost
line_cost (Store size a at) = operand_cost a + operand_cost at.base + 1
line_cost (Alloc to size) = 3 + place_cost
line_cost (Blit from to count) = operand_cost from + operand_cost to + 8 * ((count + 7) / 8)
line_cost (Call to callee args) = 20 + 24 * length args

abbrev pub return_cost : {P : Type 0} → Option (ReturnValue P) → ℕ
return_cost None = 2
return_cost (Some a) = operand_cost a.value + 3

-- a word is extended before it is compared
abbrev pub branch_cost : Class → ℕ
branch_cost W = 7
branch_cost L = 5

-- a return goes to the end of the frame, which the call pays for
abbrev pub jump_cost : {P : Type 0} → Jump P → ℕ
jump_cost (Goto k) = 2
jump_cost (Branch on met otherwise) =
    operand_cost on.left + operand_cost on.right + branch_cost on.class
jump_cost (Return a) = return_cost a
jump_cost Halt = 1

-- with so many instructions already paid for
abbrev pub affords : {P : Type 0} → ℕ → Jump P → List (Line P) → Bool
affords credit jump [] = nat_le (jump_cost jump) credit
affords credit jump (Tick turn w ∷ lines) = affords (credit + 32 * w) jump lines
affords credit jump (l ∷ lines) =
    nat_le (line_cost l) credit && affords (credit - line_cost l) jump lines

-- a block begins with nothing paid for
abbrev pub is_paid : {P : Type 0} → Block P → Bool
is_paid b = affords 0 b.jump b.lines
