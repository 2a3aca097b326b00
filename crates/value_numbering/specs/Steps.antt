-- Registers that grow by numbers, what is linear in them, and what is known behind a line.
use Rattle.std.specs.Prelude.{ℕ, ◌+◌, ◌-◌, ◌*◌, ◌%◌, ◌^◌, Bool, true, false, ◌&&◌, ◌||◌, nat_eq, nat_lt, nat_le, if◌then◌else◌, List, [], ◌∷◌, ◌++◌, filter, length, Option, Some, None, option_and_then, option_map}
use Rattle.vcode.specs.declared.place.Operand.{Operand}
use Rattle.vcode.specs.declared.place.Operand.TheVariants.{At, Number}
use Rattle.vcode.specs.declared.line.Line.{Line}
use Rattle.vcode.specs.declared.line.Operation.TheVariants.{Reg, RegW}
use Rattle.rv_isa.specs.declared.instruction.RegOp.TheVariants.{Add, Sll, Mul}
use Rattle.value_numbering.specs.declared.fact.Expression.{Expression}
use Rattle.value_numbering.specs.declared.fact.Expression.TheVariants.{Same, Operated, Linear}
use Rattle.value_numbering.specs.declared.fact.Fact.{Fact}
use Rattle.value_numbering.specs.declared.steps.Multiple.{Multiple}
use Rattle.value_numbering.specs.declared.steps.Increment.{Increment}
use Rattle.value_numbering.specs.Known.{computed, names, stays, first_of, grows_in, canonical, kept_fact, known_by}

-- ---- sums with products

abbrev pub product_in : Expression → Option Multiple
product_in (Operated (Reg Sll) a (Number n)) =
    if nat_lt n 64 then Some (record { index = a; factor = 2 ^ n }) else None
product_in (Operated (Reg Mul) a (Number n)) = Some (record { index = a; factor = n })
product_in e = None

-- the product with a number that the register is first known to hold
abbrev pub product : List Fact → ℕ → Option Multiple
product [] r = None
product (f ∷ facts) r =
    first_of (if nat_eq f.register r then product_in f.value else None) (product facts r)

abbrev pub product_of : List Fact → Operand ℕ → Option Multiple
product_of facts (At r) = product facts r
product_of facts a = None

abbrev pub beyond : (base : Operand ℕ) → Option Multiple → Option Expression
beyond base (Some p) = Some (Linear base p.index p.factor 0)
beyond base None = None

-- a sum of which a summand is such a product
abbrev pub linear_in : List Fact → Expression → Option Expression
linear_in facts (Operated (Reg Add) a b) =
    first_of (beyond a (product_of facts b)) (beyond b (product_of facts a))
linear_in facts e = None

abbrev pub linear_note : List Fact → ℕ → Expression → Option Fact
linear_note facts x e =
    option_and_then (λ l. kept_fact (record { register = x; value = l })) (linear_in facts e)

-- ---- words that stand extended

-- the number modulo 2^64 is the extension of its low 32 bits
abbrev pub stands : ℕ → Bool
stands n = nat_lt (n % 2 ^ 64) (2 ^ 31) || nat_le (2 ^ 64 - 2 ^ 31) (n % 2 ^ 64)

abbrev pub word_in : List Fact → Expression → Bool
word_in facts (Operated (RegW op) a b) = true
word_in facts (Operated (Reg Add) (At q) (Number n)) = grows_in facts q n
word_in facts (Same (Number n)) = stands n
word_in facts e = false

-- one of these facts says that the register is a word that stands extended
abbrev pub is_word_by : (all facts : List Fact) → ℕ → Bool
is_word_by all [] r = false
is_word_by all (f ∷ facts) r =
    if nat_eq f.register r && word_in all f.value then true else is_word_by all facts r

abbrev pub is_word : List Fact → ℕ → Bool
is_word facts r = is_word_by facts facts r

-- what a line makes known besides what it computes
abbrev pub noted : List Fact → Fact → Option Fact
noted facts f = linear_note facts f.register (canonical facts f.value)

abbrev pub other_by : List Fact → Line ℕ → Option Fact
other_by facts l = option_and_then (noted facts) (computed l)

-- ---- lines that add a number to a register

-- what is added to the register
abbrev pub added_to : ℕ → Expression → Option ℕ
added_to x (Operated (Reg Add) (At q) (Number n)) = if nat_eq q x then Some n else None
added_to x e = None

-- the number of which y is first known to be the sum with x
abbrev pub ahead : List Fact → (x y : ℕ) → Option ℕ
ahead [] x y = None
ahead (f ∷ facts) x y =
    first_of (if nat_eq f.register y then added_to x f.value else None) (ahead facts x y)

abbrev pub growth : List Fact → ℕ → Expression → Option ℕ
growth facts x (Same (At y)) = ahead facts x y
growth facts x e = added_to x e

abbrev pub increment_of : List Fact → Fact → Option Increment
increment_of facts f =
    option_map (λ n. record { register = f.register; by = n })
    (growth facts f.register (canonical facts f.value))

abbrev pub increment_by : List Fact → Line ℕ → Option Increment
increment_by facts l = option_and_then (increment_of facts) (computed l)

-- ---- what is linear, behind such a line

abbrev pub further : (offset by : ℕ) → ℕ
further o n = (o + n) % 2 ^ 64

abbrev pub behind : (offset by factor : ℕ) → ℕ
behind o n c = (o + (2 ^ 64 - n * c % 2 ^ 64)) % 2 ^ 64

abbrev pub with_offset : ℕ → (base : Operand ℕ) → (index factor offset : ℕ) → Fact
with_offset r b i c o = record { register = r; value = Linear b (At i) c o }

-- the register or the index grew, and nothing else that the fact names
abbrev pub moved_linear : Increment → ℕ → (base : Operand ℕ) → (index factor offset : ℕ) →
    Option Fact
moved_linear s r b i c o =
    if names s.register b || (nat_eq i s.register && nat_eq r s.register) then None
    else if nat_eq i s.register then Some (with_offset r b i c (behind o s.by c))
    else if nat_eq r s.register then Some (with_offset r b i c (further o s.by))
    else None

abbrev pub moved : Increment → ℕ → Expression → Option Fact
moved s r (Linear b (At i) c o) = moved_linear s r b i c o
moved s r e = None

abbrev pub if_stays : Line ℕ → Fact → Option Fact
if_stays l f = if stays l f then Some f else None

abbrev pub with_front : Option Fact → List Fact → List Fact
with_front None facts = facts
with_front (Some f) facts = f ∷ facts

abbrev pub carried : Increment → Line ℕ → List Fact → List Fact
carried s l [] = []
carried s l (f ∷ facts) =
    with_front (first_of (moved s f.register f.value) (if_stays l f)) (carried s l facts)

abbrev pub kept : Option Increment → Line ℕ → List Fact → List Fact
kept None l facts = filter (stays l) facts
kept (Some s) l facts = carried s l facts

-- ---- behind a line

-- one more, if fewer than 64 are known
abbrev pub with_fact : Option Fact → List Fact → List Fact
with_fact None facts = facts
with_fact (Some f) facts = if nat_lt (length facts) 64 then facts ++ f ∷ [] else facts

abbrev pub after : Line ℕ → List Fact → List Fact
after l facts =
    with_fact (other_by facts l)
    (with_fact (known_by facts l) (kept (increment_by facts l) l facts))
