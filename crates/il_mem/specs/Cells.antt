-- Tests of one cell.
use Rattle.std.specs.Prelude.{ℕ, Bool, false, nat_eq, ◌&&◌, Option, Some, None}
use Rattle.il_ast.specs.declared.value.Value.{Value}
use Rattle.il_ast.specs.declared.value.Cell.{Cell}
use Rattle.il_ast.specs.declared.value.Cell.TheVariants.{Plain, Part, Blank}
use Rattle.il_ast.specs.Prelude.{same_value}

abbrev pub plain_byte : Cell → Option ℕ
plain_byte (Plain b) = Some b
plain_byte (Part v i) = None
plain_byte Blank = None

abbrev pub part_value : Cell → Option Value
part_value (Plain b) = None
part_value (Part v i) = Some v
part_value Blank = None

abbrev pub is_part_of : Value → ℕ → Cell → Bool
is_part_of v k (Plain b) = false
is_part_of v k (Part u i) = same_value u v && nat_eq i k
is_part_of v k Blank = false
