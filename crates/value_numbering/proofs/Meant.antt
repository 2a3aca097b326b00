-- What expressions give, and that a fact is true.
use Rattle.std.specs.Prelude.{◌≡◌, ℕ, ◌%◌, ◌^◌, Bool, true, false, nat_eq, None, if◌then◌else◌, List, Option, Some, option_and_then}
use Rattle.il_ast.specs.declared.value.Value.{Value}
use Rattle.il_ast.specs.declared.value.Value.TheVariants.{Integer}
use Rattle.il_ast.specs.Prelude.{Memory}
use Rattle.vcode.specs.declared.place.Operand.{Operand}
use Rattle.vcode.specs.declared.place.Operand.TheVariants.{Number}
use Rattle.vcode.specs.declared.line.Operation.TheVariants.{Reg}
use Rattle.rv_isa.specs.declared.instruction.RegOp.TheVariants.{Add, Sll, Mul}
use Rattle.vcode.specs.Prelude.{distance, loaded, value_of, operated, Values, Act, Fails, Gives, given}
use Rattle.value_numbering.specs.declared.fact.Expression.{Expression}
use Rattle.value_numbering.specs.declared.fact.Expression.TheVariants.{Same, Operated, Extended, Loaded, Linear, Growing}
use Rattle.value_numbering.specs.declared.fact.Fact.{Fact}
use Rattle.rv_isa.specs.declared.instruction.RegWOp.TheVariants.{Addw}
use Rattle.rv_isa.specs.Prelude.{reg_value, regw_value}

-- so many bytes beyond what the operand holds
abbrev pub reached : List Value → Memory → Values ℕ → Operand ℕ → (distance : ℕ) → Option Value
reached globals m values a d =
    if nat_eq d 0 then value_of globals values a
    else operated m (Reg Add) (value_of globals values a) (value_of globals values (Number d))

-- so many times the index beyond the base, and an offset more
abbrev pub linear : Memory → (base index : Option Value) → (factor offset : ℕ) → Option Value
linear m b i c o =
    operated m (Reg Add)
    (operated m (Reg Add) b (operated m (Reg Mul) i (Some (Integer (c % 2 ^ 64)))))
    (Some (Integer (o % 2 ^ 64)))

-- the number added to it as a word gives what it gives added to it as a long
abbrev pub grows : (number : ℕ) → Option Value → Bool
grows n None = true
grows n (Some (Integer k)) = nat_eq (regw_value Addw k (n % 2 ^ 64)) (reg_value Add k (n % 2 ^ 64))
grows n (Some v) = false

abbrev pub only_if : Bool → Option Value → Act
only_if true o = Gives o
only_if false o = Fails

abbrev pub gives : List Value → Memory → Values ℕ → Expression → Act
gives globals m values (Same a) = Gives (value_of globals values a)
gives globals m values (Operated op a b) =
    Gives (operated m op (value_of globals values a) (value_of globals values b))
gives globals m values (Extended back a n) =
    Gives
    (operated m (Reg back)
    (operated m (Reg Sll) (value_of globals values a) (value_of globals values (Number n)))
    (value_of globals values (Number n)))
gives globals m values (Loaded op a d) =
    given (option_and_then (loaded m op) (reached globals m values a d))
gives globals m values (Linear b i c o) =
    Gives (linear m (value_of globals values b) (value_of globals values i) c o)
gives globals m values (Growing a n) =
    only_if (grows n (value_of globals values a)) (value_of globals values a)

abbrev pub IsTrueOf : List Value → Memory → Values ℕ → Fact → Type 0
IsTrueOf globals m values f = gives globals m values f.value ≡ Gives (values f.register)
