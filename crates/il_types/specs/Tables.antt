-- The tests of values, by marks in the place of searches.
use Rattle.std.specs.Prelude.{ℕ, Bool, true, false, not, ◌||◌, List, Option, Some, None}
use Rattle.il_ast.specs.declared.operation.Class.{Class}
use Rattle.il_ast.specs.declared.operation.Class.TheVariants.{W, L}
use Rattle.il_ast.specs.declared.operand.Val.{Val}
use Rattle.il_ast.specs.declared.operand.Val.TheVariants.{Int, Temp, Global}
use Rattle.il_ast.specs.declared.instruction.Jump.{Jump}
use Rattle.il_ast.specs.declared.instruction.Jump.TheVariants.{Goto, Branch, Return, Halt}
use Rattle.il_ast.specs.declared.instruction.Lined.{Lined}
use Rattle.il_ast.specs.declared.block.Block.{Block}
use Rattle.il_types.specs.Marks.{marked}
use Rattle.il_types.specs.Locals.{in_returns}

abbrev pub value_fits : List Bool → Class → Val → Bool
value_fits words c (Int n) = true
value_fits words W (Temp t) = true
value_fits words L (Temp t) = not (marked words t)
value_fits words W (Global g) = false
value_fits words L (Global g) = true

abbrev pub value_is_defined : List Bool → List Bool → Val → Bool
value_is_defined words longs (Int n) = true
value_is_defined words longs (Temp t) = marked words t || marked longs t
value_is_defined words longs (Global g) = true

abbrev pub result_takes : List Bool → Option Class → Val → Bool
result_takes words None a = false
result_takes words (Some c) a = value_fits words c a

abbrev pub returned_misfit : List Bool → Option Class → List Block → Option ℕ
returned_misfit words result blocks = in_returns (λ a. not (result_takes words result a)) blocks

abbrev pub returned_undefined : List Bool → List Bool → List Block → Option ℕ
returned_undefined words longs blocks =
    in_returns (λ a. not (value_is_defined words longs a)) blocks

abbrev pub returned_value : ℕ → Jump → Option (ℕ × Val)
returned_value line (Goto l) = None
returned_value line (Branch a nonzero otherwise) = None
returned_value line (Return None) = None
returned_value line (Return (Some a)) = Some (line, a)
returned_value line Halt = None

-- the value that a block returns, with its line
abbrev pub returned_at : Option (Lined Jump) → Option (ℕ × Val)
returned_at None = None
returned_at (Some j) = returned_value j.line j.item
