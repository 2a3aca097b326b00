-- The limits over all texts of a program.
use Rattle.std.specs.Prelude.{ℕ, Bool, nat_le, ◌&&◌, List, length, sum_by}
use Rattle.il_ast.specs.declared.limits.TheConstants.{TEXTS, FUNCTIONS, PROGRAM_WEIGHT, DATA_BYTES}
use Rattle.il_ast.specs.declared.operation.Size.{Size}
use Rattle.il_ast.specs.declared.datum.Item.{Item}
use Rattle.il_ast.specs.declared.datum.Item.TheVariants.{Int, Bytes, Address}
use Rattle.il_ast.specs.declared.datum.Field.{Field}
use Rattle.il_ast.specs.declared.datum.Field.TheVariants.{Items, Zeros}
use Rattle.il_ast.specs.declared.datum.DataDef.{DataDef}
use Rattle.il_ast.specs.declared.function.Func.{Func}
use Rattle.il_ast.specs.declared.program.InText.{InText}
use Rattle.il_ast.specs.Prelude.{byte_count, round_16, weight}
use Rattle.il_types.specs.declared.checked.Checked.{Checked}

-- how many bytes a datum has
abbrev pub item_size : Size → Item → ℕ
item_size size (Int n) = byte_count size
item_size size (Bytes bytes) = length bytes
item_size size (Address g offset) = 8

abbrev pub field_size : Field → ℕ
field_size (Items size items) = sum_by (item_size size) items
field_size (Zeros n) = n

abbrev pub object_size : DataDef → ℕ
object_size d = sum_by field_size d.fields

abbrev pub total_weight : List (InText Func) → ℕ
total_weight functions = sum_by (λ (f : InText Func). weight f.item) functions

-- the bytes of all data, each datum rounded up to 16
abbrev pub total_size : List (InText DataDef) → ℕ
total_size objects = sum_by (λ (d : InText DataDef). round_16 (object_size d.item)) objects

abbrev pub within_limits : List Checked → List (InText Func) → List (InText DataDef) → Bool
within_limits texts functions objects =
    nat_le (length texts) TEXTS
    && (nat_le (length functions) FUNCTIONS && (nat_le (total_weight functions) PROGRAM_WEIGHT
    && nat_le (total_size objects) DATA_BYTES))
