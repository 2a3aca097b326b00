-- How values stand in places, and what the operations give: those of the machine on integers
-- (Unprivileged ISA manual), the source's rules on pointers and functions.
use Rattle.std.specs.Prelude.{ℕ, ◌%◌, ◌^◌, Bool, false, nat_eq, if◌then◌else◌, Option, Some, None, option_and_then}
use Rattle.bits.specs.Words.{sign_extended}
use Rattle.il_ast.specs.declared.operation.Class.{Class}
use Rattle.il_ast.specs.declared.operation.Class.TheVariants.{W, L}
use Rattle.il_ast.specs.declared.operation.BinaryOp.TheVariants.{Add, Sub, Compare}
use Rattle.il_ast.specs.declared.operation.Condition.{Condition}
use Rattle.il_ast.specs.declared.value.Value.{Value}
use Rattle.il_ast.specs.declared.value.Value.TheVariants.{Integer, Pointer, Function}
use Rattle.il_ast.specs.Prelude.{in_place, Memory, load, on_places, operate_two}
use Rattle.rv_isa.specs.declared.instruction.RegOp.{RegOp}
use Rattle.rv_isa.specs.declared.instruction.RegOp.TheVariants.{Add as AddLong, Sub as SubLong}
use Rattle.rv_isa.specs.declared.instruction.LoadOp.{LoadOp}
use Rattle.rv_isa.specs.declared.instruction.LoadOp.TheVariants.{Lb, Lh, Lw, Ld, Lbu, Lhu, Lwu}
use Rattle.rv_isa.specs.Prelude.{reg_value, regw_value, load_size, load_value}
use Rattle.vcode.specs.Types.{Extension, Claimed, Operation, Reg, RegW, Compare as CompareValues}

-- how a value of this class stands in a place: a word sign-extended to 64 bits, any other value as
-- it is
abbrev pub held : Class → Value → Value
held W (Integer n) = Integer (sign_extended (n % 2 ^ 32))
held W (Pointer b o) = Pointer b o
held W (Function f) = Function f
held L v = v

-- the number is the sign extension of its low 32 bits
abbrev pub is_extended : ℕ → Bool
is_extended n = nat_eq (sign_extended (n % 2 ^ 32)) n

-- it stands as a word does
abbrev pub stands_extended : Value → Bool
stands_extended (Integer n) = is_extended n
stands_extended v = false

-- what is passed of a value in a place of class k; a word that is claimed to stand extended has to
abbrev pub passed : Extension → Class → Value → Option Value
passed Claimed W v = if stands_extended v then in_place W v else None
passed t k v = in_place k v

-- of a pointer or a function: what may be added and subtracted
abbrev pub reg_on_places : Memory → RegOp → Value → Value → Option Value
reg_on_places m AddLong u v = on_places m Add u v
reg_on_places m SubLong u v = on_places m Sub u v
reg_on_places m op u v = None

-- each operand is read in a place of class k
abbrev pub compare : Memory → Condition → Class → Value → Value → Option Value
compare m on k u v =
    option_and_then (λ a. option_and_then (λ b. operate_two m (Compare on k) W a b) (in_place k v))
    (in_place k u)

unfoldable pub operate : Memory → Operation → Value → Value → Option Value
operate m (Reg op) (Integer a) (Integer b) = Some (Integer (reg_value op a b))
operate m (Reg op) u v = reg_on_places m op u v
operate m (RegW op) (Integer a) (Integer b) = Some (Integer (regw_value op a b))
operate m (RegW op) u v = None
operate m (CompareValues on k) u v = compare m on k u v

-- the lowest bytes of a number, as many as a load reads; eight are all
abbrev pub narrowed : LoadOp → ℕ → ℕ
narrowed Lb n = n % 2 ^ 8
narrowed Lbu n = n % 2 ^ 8
narrowed Lh n = n % 2 ^ 16
narrowed Lhu n = n % 2 ^ 16
narrowed Lw n = n % 2 ^ 32
narrowed Lwu n = n % 2 ^ 32
narrowed Ld n = n

-- a number that was loaded, extended; any other value stands in eight bytes, and only `ld` reads
-- these
abbrev pub extended : LoadOp → Value → Option Value
extended op (Integer n) = Some (Integer (load_value op (narrowed op n)))
extended Ld v = Some v
extended op v = None

unfoldable pub loaded : Memory → LoadOp → Value → Option Value
loaded m op at = option_and_then (extended op) (load m (load_size op) at)
