-- What registers are known to hold before a line, and behind it.
use Rattle.std.specs.Prelude.{◌≡◌, ℕ, Bool, true, false, not, ◌&&◌, ◌||◌, nat_eq, if◌then◌else◌, List, [], ◌∷◌, slice_get, Option, Some, None, option_and_then}
use Rattle.vcode.specs.declared.place.Operand.{Operand}
use Rattle.vcode.specs.declared.place.Operand.TheVariants.{At, Number}
use Rattle.vcode.specs.declared.line.Line.{Line}
use Rattle.vcode.specs.declared.line.Line.TheVariants.{Set, Operate, Load, Store, Alloc, Blit, Call}
use Rattle.vcode.specs.declared.line.Operation.{Operation}
use Rattle.vcode.specs.declared.line.Operation.TheVariants.{Reg, RegW, Compare}
use Rattle.rv_isa.specs.declared.instruction.RegOp.{RegOp}
use Rattle.rv_isa.specs.declared.instruction.RegOp.TheVariants.{Add, Sll, Srl, Sra}
use Rattle.rv_isa.specs.declared.instruction.RegWOp.{RegWOp}
use Rattle.rv_isa.specs.declared.instruction.RegWOp.TheVariants.{Addw}
use Rattle.vcode.specs.Prelude.{distance, line_writes}
use Rattle.value_numbering.specs.declared.fact.Expression.{Expression}
use Rattle.value_numbering.specs.declared.fact.Expression.TheVariants.{Same, Operated, Extended, Loaded, Linear, Growing}
use Rattle.value_numbering.specs.declared.fact.Fact.{Fact}

abbrev pub IsIn : Fact → List Fact → Type 0
IsIn f facts = (k : ℕ) × (slice_get facts k ≡ Some f)

-- what a line computes, and where to
abbrev pub computed : Line ℕ → Option Fact
computed (Set to a) = Some (record { register = to; value = Same a })
computed (Operate to op a b) = Some (record { register = to; value = Operated op a b })
computed (Load to op at) =
    Some (record { register = to; value = Loaded op at.base (distance at) })
computed l = None

-- ---- which facts stay true over a line

abbrev pub names : ℕ → Operand ℕ → Bool
names r (At q) = nat_eq q r
names r a = false

abbrev pub reads : ℕ → Expression → Bool
reads r (Same a) = names r a
reads r (Operated op a b) = names r a || names r b
reads r (Extended back a n) = names r a
reads r (Loaded op a d) = names r a
reads r (Linear b i c o) = names r b || names r i
reads r (Growing a n) = names r a

-- a comparison asks which blocks of memory live
abbrev pub asks_memory : Expression → Bool
asks_memory (Operated (Compare on k) a b) = true
asks_memory (Loaded op a d) = true
asks_memory e = false

abbrev pub changes_memory : Line ℕ → Bool
changes_memory (Store size a at) = true
changes_memory (Alloc to size) = true
changes_memory (Blit from to count) = true
changes_memory (Call to callee args) = true
changes_memory l = false

abbrev pub spares : (written : Option ℕ) → Fact → Bool
spares None f = true
spares (Some r) f = not (nat_eq f.register r || reads r f.value)

abbrev pub stays : Line ℕ → Fact → Bool
stays l f = not (changes_memory l && asks_memory f.value) && spares (line_writes l) f

-- ---- expressions of registers that are no copies

abbrev pub copied_from : Expression → Option ℕ
copied_from (Same (At q)) = Some q
copied_from e = None

abbrev pub source_by : Option ℕ → ℕ → ℕ
source_by (Some q) r = q
source_by None r = r

-- the register that this one is first known to be a copy of, or itself
abbrev pub source : List Fact → ℕ → ℕ
source [] r = r
source (f ∷ facts) r =
    source_by (if nat_eq f.register r then copied_from f.value else None) (source facts r)

abbrev pub copied : List Fact → Operand ℕ → Operand ℕ
copied facts (At r) = At (source facts r)
copied facts a = a

-- what a value is, shifted to the left by so many bits
abbrev pub shifted_in : Expression → (bits : ℕ) → Option (Operand ℕ)
shifted_in (Operated (Reg Sll) a (Number k)) n = if nat_eq k n then Some a else None
shifted_in e n = None

abbrev pub first_of : {X : Type 0} → Option X → Option X → Option X
first_of (Some x) o = Some x
first_of None o = o

-- what the register is first known to hold, shifted to the left by so many bits
abbrev pub shifted : List Fact → ℕ → (bits : ℕ) → Option (Operand ℕ)
shifted [] r n = None
shifted (f ∷ facts) r n =
    first_of (if nat_eq f.register r then shifted_in f.value n else None) (shifted facts r n)

abbrev pub is_back : RegOp → Bool
is_back Srl = true
is_back Sra = true
is_back op = false

abbrev pub extended_by : RegOp → ℕ → ℕ → Option (Operand ℕ) → Expression
extended_by op r n (Some a) = Extended op a n
extended_by op r n None = Operated (Reg op) (At r) (Number n)

-- an extension where it shifts back what was shifted to the left by as many bits
abbrev pub extended : List Fact → RegOp → ℕ → ℕ → Expression
extended facts op r n =
    if is_back op then extended_by op r n (shifted facts r n)
    else Operated (Reg op) (At r) (Number n)

abbrev pub grows_as : Expression → (number : ℕ) → Bool
grows_as (Growing a k) n = nat_eq k n
grows_as e n = false

-- it is known that the number added to the register as a word gives what it gives as a long
abbrev pub grows_in : List Fact → ℕ → (number : ℕ) → Bool
grows_in [] r n = false
grows_in (f ∷ facts) r n =
    if nat_eq f.register r && grows_as f.value n then true else grows_in facts r n

-- a sum of words, as one of longs where that is the same
abbrev pub widened : RegWOp → ℕ → ℕ → (grows : Bool) → Expression
widened Addw r n true = Operated (Reg Add) (At r) (Number n)
widened op r n b = Operated (RegW op) (At r) (Number n)

abbrev pub joined : List Fact → Operation → (left right : Operand ℕ) → Expression
joined facts (Reg op) (At r) (Number n) = extended facts op r n
joined facts (RegW op) (At r) (Number n) = widened op r n (grows_in facts r n)
joined facts op a b = Operated op a b

abbrev pub canonical : List Fact → Expression → Expression
canonical facts (Same a) = Same (copied facts a)
canonical facts (Operated op a b) = joined facts op (copied facts a) (copied facts b)
canonical facts (Extended back a n) = Extended back (copied facts a) n
canonical facts (Loaded op a d) = Loaded op (copied facts a) d
canonical facts (Linear b i c o) = Linear (copied facts b) (copied facts i) c o
canonical facts (Growing a n) = Growing (copied facts a) n

-- ---- what is known behind a line

-- a number or a name, which no other register stands for
abbrev pub is_plain : Expression → Bool
is_plain (Same (At q)) = false
is_plain (Same a) = true
is_plain e = false

-- nothing where the register is written that is read
abbrev pub kept_fact : Fact → Option Fact
kept_fact f = if reads f.register f.value || is_plain f.value then None else Some f

abbrev pub known_by : List Fact → Line ℕ → Option Fact
known_by facts l =
    option_and_then
    (λ f. kept_fact (record { register = f.register; value = canonical facts f.value }))
    (computed l)
