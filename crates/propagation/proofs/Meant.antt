-- That facts are true, and that they name registers below a number.
use Rattle.std.specs.Prelude.{◌≡◌, ℕ, true, List, [], ◌%◌, ◌^◌, Option, Some, ◌-◌}
use Rattle.il_ast.specs.declared.value.Value.{Value}
use Rattle.il_ast.specs.declared.value.Value.TheVariants.{Integer}
use Rattle.rv_isa.specs.declared.instruction.RegOp.TheVariants.{Add}
use Rattle.vcode.specs.declared.line.Operation.TheVariants.{Reg}
use Rattle.vcode.specs.Prelude.{State, value_of, operated, compared}
use Rattle.propagation.specs.declared.constants.fact.Fact.{Fact}
use Rattle.propagation.specs.declared.constants.fact.Fact.TheVariants.{Same, Sum, Test}
use Rattle.il_ast.specs.Prelude.{holds}
use Rattle.propagation.specs.FactTable.{Facts, fact_below}

-- the sum of a value and a number, which asks no memory
abbrev pub summed : Option Value → ℕ → Option Value
summed o n = operated [] (Reg Add) o (Some (Integer (n % 2 ^ 64)))

-- the register holds what the operand does, the sum of that and the number, or what the comparison
-- gives
abbrev pub Truth : List Value → State ℕ → ℕ → Fact → Type 0
Truth globals s r (Same a) = s.values r ≡ value_of globals s.values a
Truth globals s r (Sum a n) = s.values r ≡ summed (value_of globals s.values a) n
Truth globals s r (Test c) = s.values r ≡ compared globals s c

abbrev pub AreTrue : List Value → State ℕ → Facts → Type 0
AreTrue globals s fs = (r : ℕ) (f : Fact) → fs r ≡ Some f → Truth globals s r f

abbrev pub AreBelow : (n : ℕ) → Facts → Type 0
AreBelow n fs = (r : ℕ) (f : Fact) → fs r ≡ Some f → fact_below n f ≡ true
