-- 0 minus a value.
use Rattle.std.specs.Prelude.{◌-◌, ◌%◌, Option, Some, None}
use Rattle.il_ast.specs.declared.operation.Class.{Class}
use Rattle.il_ast.specs.declared.value.Value.{Value}
use Rattle.il_ast.specs.declared.value.Value.TheVariants.{Integer, Pointer, Function}
use Rattle.il_ast.specs.Prelude.{modulus}

abbrev pub negated : Class → Value → Option Value
negated c (Integer n) = Some (Integer ((modulus c - n) % modulus c))
negated c (Pointer b o) = None
negated c (Function f) = None
