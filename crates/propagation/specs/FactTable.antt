-- What registers are known to hold, as a table has it: facts with the times since when they are
-- known, and when registers and memory were last written.
use Rattle.std.specs.Prelude.{◌≡◌, ℕ, Bool, true, false, ◌&&◌, ◌||◌, nat_eq, nat_lt, if◌then◌else◌, List, ◌%◌, ◌^◌, Option, Some, None, ◌<◌, ◌≤◌, not, nat_le, length, slice_get, ◌-◌, option_and_then}
use Rattle.vcode.specs.declared.place.Operand.{Operand}
use Rattle.vcode.specs.declared.place.Operand.TheVariants.{At, Number}
use Rattle.rv_isa.specs.declared.instruction.RegOp.TheVariants.{Sll, Srl, And, Mul, Divu, Remu}
use Rattle.vcode.specs.declared.line.Operation.TheVariants.{Reg, RegW, Compare}
use Rattle.vcode.specs.Prelude.{line_cost}
use Rattle.propagation.specs.declared.constants.fact.Fact.{Fact}
use Rattle.propagation.specs.declared.constants.fact.Fact.TheVariants.{Same, Sum, Test}
use Rattle.std.specs.Option.{option_map_or}
use Rattle.propagation.specs.declared.constants.fact.DatedFact.{DatedFact}
use Rattle.propagation.specs.declared.constants.table.FactTable.{FactTable}
use Rattle.std.specs.Int.{w64, trailing_zeros}
use Rattle.il_ast.specs.Prelude.{modulus, holds, truth}
use Rattle.rv_isa.specs.Prelude.{reg_value, regw_value}
use Rattle.rv_isa.specs.declared.instruction.RegWOp.TheVariants.{Sllw, Srlw, Mulw, Divuw, Remuw}
use Rattle.vcode.specs.declared.line.Operation.{Operation}
use Rattle.vcode.specs.declared.line.Line.{Line}
use Rattle.vcode.specs.declared.line.Line.TheVariants.{Set, Operate}

-- ---- what registers are known to hold

-- what is known of each register
abbrev pub Facts : Type 0
Facts = ℕ → Option Fact

abbrev pub names_it : Operand ℕ → ℕ → Bool
names_it (At k) r = nat_eq k r
names_it a r = false

abbrev pub fact_names : Fact → ℕ → Bool
fact_names (Same a) r = names_it a r
fact_names (Sum a n) r = names_it a r
fact_names (Test c) r = names_it c.left r || names_it c.right r

-- a comparison may be of pointers
abbrev pub asks_memory : Fact → Bool
asks_memory (Same a) = false
asks_memory (Sum a n) = false
asks_memory (Test c) = true

-- a fact, if it passes the test
abbrev pub kept_if : (Fact → Bool) → Option Fact → Option Fact
kept_if test None = None
kept_if test (Some f) = if test f then Some f else None

-- each register that is named is below n
abbrev pub operand_below : (n : ℕ) → Operand ℕ → Bool
operand_below n (At r) = nat_lt r n
operand_below n a = true

abbrev pub fact_below : (n : ℕ) → Fact → Bool
fact_below n (Same a) = operand_below n a
fact_below n (Sum a m) = operand_below n a
fact_below n (Test c) = operand_below n c.left && operand_below n c.right

abbrev pub cell : List (Option DatedFact) → ℕ → Option DatedFact
cell cells r = option_map_or (λ (k : Option DatedFact). k) (slice_get cells r) None

-- no register of it was written since
abbrev pub is_fresh : (written : List ℕ) → (since : ℕ) → Operand ℕ → Bool
is_fresh written since (At r) = option_map_or (λ w. nat_le w since) (slice_get written r) false
is_fresh written since a = true

abbrev pub stands : (written : List ℕ) → (memory since : ℕ) → Fact → Bool
stands written memory since (Same a) = is_fresh written since a
stands written memory since (Sum a n) = is_fresh written since a
stands written memory since (Test c) =
    is_fresh written since c.left && (is_fresh written since c.right && nat_le memory since)

abbrev pub counted : (written : List ℕ) → (memory begun : ℕ) → Option DatedFact → Option Fact
counted written memory begun None = None
counted written memory begun (Some k) =
    if nat_lt begun k.since && stands written memory k.since k.fact then Some k.fact else None

-- what the table knows
abbrev pub facts_of : FactTable → Facts
facts_of t r = counted t.written.items t.memory t.begun (cell t.cells.items r)

-- what a fact says that a register is a copy of
abbrev pub copy_of : Option Fact → Option (Operand ℕ)
copy_of (Some (Same a)) = Some a
copy_of o = None

-- nothing is later than its clock
pub record IsTable (t : FactTable) : Type 0 where
  pub cells : (r : ℕ) (k : DatedFact) → cell t.cells.items r ≡ Some k → k.since ≤ t.clock
  pub written : (r w : ℕ) → slice_get t.written.items r ≡ Some w → w ≤ t.clock
  pub memory : t.memory ≤ t.clock
  pub begun : t.begun ≤ t.clock
  pub wide : length t.cells.items ≡ length t.written.items

-- a line is being done: the block began before it, and what is known was known before it
pub record IsAtLine (t : FactTable) : Type 0 where
  pub table : IsTable t
  pub cells : (r : ℕ) (k : DatedFact) → cell t.cells.items r ≡ Some k → k.since < t.clock
  pub begun : t.begun < t.clock

-- after memory was written, if it was
abbrev pub changed : Bool → Facts → Facts
changed memory fs q = kept_if (λ f. not (memory && asks_memory f)) (fs q)

-- after register r was written, of which `known` is known then, of n registers
abbrev pub over : (n r : ℕ) → Option Fact → Facts → Facts
over n r known fs q =
    kept_if (λ f. nat_lt q n && (fact_below n f && not (fact_names f r)))
    (if nat_eq q r then known else fs q)

-- ---- short forms of operations: on two numbers as a number; by a power of two as a shift or a mask
-- ---- operations on two numbers

-- what an operation gives of two numbers; a comparison reads each in a place of its class
abbrev pub result_of : Operation → (a b : ℕ) → ℕ
result_of (Reg op) a b = reg_value op (a % 2 ^ 64) (b % 2 ^ 64)
result_of (RegW op) a b = regw_value op (a % 2 ^ 64) (b % 2 ^ 64)
result_of (Compare on k) a b = truth (holds on k (a % modulus k) (b % modulus k))

-- whether to have the number costs no more than the operation
abbrev pub is_cheaper : (to : ℕ) → Operation → (a b n : ℕ) → Bool
is_cheaper to op a b n =
    nat_le (line_cost (Set to (Number n))) (line_cost (Operate to op (Number a) (Number b)))

abbrev pub with_result : (to : ℕ) → Operation → (a b n : ℕ) → Line ℕ
with_result to op a b n =
    if is_cheaper to op a b n then Set to (Number n) else Operate to op (Number a) (Number b)

abbrev pub computed : Line ℕ → Line ℕ
computed (Operate to op (Number a) (Number b)) = with_result to op a b (result_of op a b)
computed l = l

-- ---- powers of two

-- the k of which a number below 2^64 is the power 2^k
abbrev pub exponent : ℕ → Option ℕ
exponent n =
    if nat_lt (trailing_zeros w64 n) 64 && nat_eq (2 ^ trailing_zeros w64 n) n
    then Some (trailing_zeros w64 n) else None

abbrev pub if_below : (k m : ℕ) → Operation → ℕ → Option (Operation × ℕ)
if_below k m op n = if nat_lt k m then Some (op, n) else None

-- an operation and a number that do what this one does by 2^k; a mask has to be an immediate
abbrev pub by_power : Operation → (k : ℕ) → Option (Operation × ℕ)
by_power (Reg Mul) k = Some (Reg Sll, k)
by_power (Reg Divu) k = Some (Reg Srl, k)
by_power (Reg Remu) k = if_below k 12 (Reg And) (2 ^ k - 1)
by_power (RegW Mulw) k = if_below k 32 (RegW Sllw) k
by_power (RegW Divuw) k = if_below k 32 (RegW Srlw) k
by_power (RegW Remuw) k = if_below k 12 (Reg And) (2 ^ k - 1)
by_power op k = None

abbrev pub with_operation : (to : ℕ) → Operation → Operand ℕ → ℕ → Option (Operation × ℕ) → Line ℕ
with_operation to op a n (Some p) = Operate to p.0 a (Number p.1)
with_operation to op a n None = Operate to op a (Number n)

abbrev pub by_shift : Line ℕ → Line ℕ
by_shift (Operate to op a (Number n)) =
    with_operation to op a n (option_and_then (by_power op) (exponent n))
by_shift l = l

-- ---- lines

abbrev pub shortened : Line ℕ → Line ℕ
shortened l = by_shift (computed l)
