-- What slots hold.
use Rattle.std.specs.Prelude.{◌≡◌, ℕ, ◌+◌, ◌*◌, ◌%◌, ◌^◌, List, slice_get, slice_set, Option, Some, None}
use Rattle.std.specs.Option.{option_flatten}
use Rattle.il_ast.specs.declared.value.Value.{Value}
use Rattle.il_ast.specs.declared.value.Value.TheVariants.{Integer, Pointer, Function}
use Rattle.il_interp.specs.declared.slots.Slot.{Slot}
use Rattle.il_interp.specs.declared.slots.Slot.TheVariants.{Unassigned, Integer as IntegerSlot, Pointer as PointerSlot, Function as FunctionSlot}

abbrev pub value_in : Slot → Option Value
value_in Unassigned = None
value_in (IntegerSlot n) = Some (Integer n)
value_in (PointerSlot high low offset) = Some (Pointer (high * 2 ^ 64 + low) offset)
value_in (FunctionSlot f) = Some (Function f)

-- a temporary gets the pointer of another one, moved on by so many bytes
pub record Moves (old : List (Option Value)) (from by to : ℕ) (new : List (Option Value)) : Type 0 where
  pub block : ℕ
  pub offset : ℕ
  pub source : option_flatten (slice_get old from) ≡ Some (Pointer block offset)
  pub moved : new ≡ slice_set old to (Some (Pointer block ((offset + by) % 2 ^ 64)))
