-- Values in their places.
use Rattle.std.specs.Prelude.{◌^◌, ◌<◌}
use Rattle.il_ast.specs.declared.operation.Class.{Class}
use Rattle.il_ast.specs.declared.operation.Class.TheVariants.{W, L}
use Rattle.il_ast.specs.declared.value.Value.{Value}
use Rattle.il_ast.specs.declared.value.Value.TheVariants.{Integer, Pointer, Function}

-- a `w` place holds an integer below 2^32
abbrev pub FitsPlace : Class → Value → Type 0
FitsPlace W (Integer n) = n < 2 ^ 32
FitsPlace W (Pointer b o) = ⊥
FitsPlace W (Function f) = ⊥
FitsPlace L v = Unit {0}
