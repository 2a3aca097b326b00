-- Which operations are comparisons.
use Rattle.std.specs.Prelude.{Bool, true, false}
use Rattle.il_ast.specs.declared.operation.BinaryOp.{BinaryOp}
use Rattle.il_ast.specs.declared.operation.BinaryOp.TheVariants.{Compare}

abbrev pub is_comparison : BinaryOp → Bool
is_comparison (Compare on c) = true
is_comparison op = false
