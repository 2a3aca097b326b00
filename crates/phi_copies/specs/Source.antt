-- What a phi takes from a block.
use Rattle.std.specs.Prelude.{ℕ, nat_eq, Option, Some, None, find}
use Rattle.il_ast.specs.declared.operand.Val.{Val}
use Rattle.il_ast.specs.declared.operand.Val.TheVariants.{Int}
use Rattle.il_ast.specs.declared.block.Phi.{Phi}
use Rattle.il_ast.specs.declared.block.PhiArg.{PhiArg}

abbrev pub value_or_zero : Option PhiArg → Val
value_or_zero None = Int 0
value_or_zero (Some a) = a.value

-- what a phi takes from the block with this label
abbrev pub source : (from : ℕ) → Phi → Val
source from p = value_or_zero (find (λ (a : PhiArg). nat_eq a.from from) p.args)
