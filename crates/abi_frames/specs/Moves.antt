-- Arguments that stand in one another's registers (RISC-V ELF psABI, "Integer Calling Convention":
-- the first eight are passed in x10 to x17). One that stands in the register of an earlier one
-- moves before the others do, the last such first; after that they can be moved in their order.
use Rattle.std.specs.Prelude.{ℕ, zero, suc, ◌+◌, Bool, true, false, ◌&&◌, nat_eq, nat_lt, nat_le, if◌then◌else◌, List, [], ◌∷◌, ◌++◌, map, slice_get, Option, Some, None}
use Rattle.std.specs.List.{list_any}
use Rattle.rv_isa.specs.declared.abi.TheConstants.{FIRST_ARGUMENT, ARGUMENT_REGISTERS, SECOND_SCRATCH}
use Rattle.rv_isa.specs.declared.labelled.Item.{Item}
use Rattle.vcode.specs.declared.place.Location.{Location}
use Rattle.vcode.specs.declared.place.Location.TheVariants.{Register, Slot}
use Rattle.vcode.specs.declared.place.Operand.{Operand}
use Rattle.vcode.specs.declared.place.Operand.TheVariants.{At, Number, Name}
use Rattle.vcode.specs.declared.place.Argument.{Argument}
use Rattle.operation_code.specs.Constants.{add_low}

-- ---- two registers have changed places

abbrev pub exchanged : (a b : ℕ) → Location → Location
exchanged a b (Register r) = Register (if nat_eq r a then b else if nat_eq r b then a else r)
exchanged a b (Slot i) = Slot i

abbrev pub operand_exchanged : (a b : ℕ) → Operand Location → Operand Location
operand_exchanged a b (At p) = At (exchanged a b p)
operand_exchanged a b (Number n) = Number n
operand_exchanged a b (Name g) = Name g

abbrev pub argument_exchanged : (a b : ℕ) → Argument Location → Argument Location
argument_exchanged a b x =
    record { class = x.class; value = operand_exchanged a b x.value; extension = x.extension }

abbrev pub exchange : (a b : ℕ) → List (Argument Location) → List (Argument Location)
exchange a b args = map (argument_exchanged a b) args

-- ---- an argument in the register of an earlier one

-- an operand that is in this register
abbrev pub is_in : (number : ℕ) → Operand Location → Bool
is_in n (At (Register r)) = nat_eq n r
is_in n a = false

abbrev pub is_read : (number : ℕ) → List (Argument Location) → Bool
is_read n args = list_any (λ a. is_in n a.value) args

-- the register, one of those before that of the k-th argument
abbrev pub earlier : (k : ℕ) → Operand Location → Option ℕ
earlier k (At (Register r)) =
    if nat_le FIRST_ARGUMENT r && nat_lt r (FIRST_ARGUMENT + k) then Some r else None
earlier k a = None

abbrev pub earlier_in : (k : ℕ) → Option (Argument Location) → Option ℕ
earlier_in k None = None
earlier_in k (Some a) = earlier k a.value

-- where the k-th argument is passed in a register, and stands in that of an earlier one
abbrev pub earlier_at : (k : ℕ) → List (Argument Location) → Option ℕ
earlier_at k args = if nat_lt k ARGUMENT_REGISTERS then earlier_in k (slice_get args k) else None

-- ---- it moves

-- to the k-th register from another one, which takes what was there by way of x29, if that is still
-- to be read
abbrev pub move_up : (k from : ℕ) → (read : Bool) → List Item
move_up k r false = add_low (FIRST_ARGUMENT + k) r 0 ∷ []
move_up k r true =
    add_low SECOND_SCRATCH (FIRST_ARGUMENT + k) 0 ∷ add_low (FIRST_ARGUMENT + k) r 0
    ∷ add_low r SECOND_SCRATCH 0 ∷ []

abbrev pub moves_up : (k : ℕ) → List (Argument Location) → Option ℕ → List Item
moves_up k args None = []
moves_up k args (Some r) = move_up k r (is_read (FIRST_ARGUMENT + k) args)

-- the k-th argument is then in this register
abbrev pub settled : (number k : ℕ) → List (Argument Location) → List (Argument Location)
settled n k [] = []
settled n zero (a ∷ args) =
    record { class = a.class; value = At (Register n); extension = a.extension } ∷ args
settled n (suc k) (a ∷ args) = a ∷ settled n k args

abbrev pub arrived : (k from : ℕ) → (read : Bool) → List (Argument Location) →
    List (Argument Location)
arrived k r false args = settled (FIRST_ARGUMENT + k) k args
arrived k r true args = exchange (FIRST_ARGUMENT + k) r args

abbrev pub moved_up : (k : ℕ) → List (Argument Location) → Option ℕ → List (Argument Location)
moved_up k args None = args
moved_up k args (Some r) = arrived k r (is_read (FIRST_ARGUMENT + k) args) args

-- of the first k arguments those that are to, the last first
abbrev pub all_move_up : (k : ℕ) → List (Argument Location) → List Item
all_move_up zero args = []
all_move_up (suc k) args =
    moves_up k args (earlier_at k args) ++ all_move_up k (moved_up k args (earlier_at k args))

-- where the arguments then are
abbrev pub all_moved_up : (k : ℕ) → List (Argument Location) → List (Argument Location)
all_moved_up zero args = args
all_moved_up (suc k) args = all_moved_up k (moved_up k args (earlier_at k args))
