-- Code in which lines that compute what a register holds are copies of it.
use Rattle.std.specs.Prelude.{◌≡◌, ℕ, ◌-◌, ◌<◌, List, ◌&&◌, nat_eq, if◌then◌else◌, Option, Some, None, slice_get, Bool, true, false, ◌+◌, ◌%◌, ◌^◌, ◌||◌, [], ◌∷◌}
use Rattle.vcode.specs.declared.place.Operand.{Operand}
use Rattle.vcode.specs.declared.place.Operand.TheVariants.{Number, At, Name}
use Rattle.vcode.specs.declared.line.Operation.TheVariants.{Reg, RegW}
use Rattle.rv_isa.specs.declared.instruction.RegOp.TheVariants.{Sll, Srl, And, Add}
use Rattle.value_numbering.specs.declared.fact.Expression.TheVariants.{Operated, Extended, Growing}
use Rattle.value_numbering.specs.declared.fact.Fact.{Fact}
use Rattle.value_numbering.specs.Known.{IsIn, is_back, first_of, copied, computed, names, source, canonical}
use Rattle.il_ast.specs.declared.operation.Size.{Size}
use Rattle.il_ast.specs.declared.operation.Size.TheVariants.{Byte, Half, Word, Long}
use Rattle.value_numbering.specs.declared.fact.Expression.{Expression}
use Rattle.vcode.specs.declared.line.Operation.{Operation}
use Rattle.vcode.specs.Prelude.{operand_keeps, is_below, is_paid}
use Rattle.rv_isa.specs.declared.instruction.RegWOp.TheVariants.{Addw}
use Rattle.std.specs.Option.{option_map_or}
use Rattle.vcode.specs.declared.line.Line.{Line}
use Rattle.vcode.specs.declared.line.Line.TheVariants.{Set, Operate, Load, Store}
use Rattle.rv_isa.specs.declared.instruction.LoadOp.{LoadOp}
use Rattle.vcode.specs.declared.line.Jump.{Jump}
use Rattle.vcode.specs.declared.line.Jump.TheVariants.{Goto, Branch, Return, Halt}
use Rattle.vcode.specs.declared.code.Block.{Block}
use Rattle.vcode.specs.declared.place.Address.{Address}
use Rattle.il_ast.specs.declared.operation.Class.TheVariants.{W, L}
use Rattle.il_ast.specs.declared.operation.Class.{Class}
use Rattle.il_ast.specs.declared.operation.Condition.{Condition}
use Rattle.il_ast.specs.declared.operation.Condition.TheVariants.{SignedLessEqual, SignedLess, SignedGreaterEqual, SignedGreater}
use Rattle.value_numbering.specs.declared.ways.Order.{Order}
use Rattle.sign_extensions.specs.Whole.{is_marked}
use Rattle.value_numbering.specs.Steps.{linear_in, stands, is_word, after}
use Rattle.value_numbering.specs.Extensions.{IsItself, IsReloaded}

-- ---- extensions by zeros that are shifted to the left

-- the register is known to hold an operand shifted to the left by so many bits and back by zeros,
-- and `whole` what that is before it is shifted back: so the register, shifted to the left by fewer
-- bits, is `whole`, shifted back by the rest of them
pub record IsHalfway (registers : ℕ) (facts : List Fact) (r by whole rest : ℕ) : Type 0 where
  pub operand : Operand ℕ
  pub bits : ℕ
  pub extended : IsIn (record { register = r; value = Extended Srl operand bits }) facts
  pub shifted : IsIn (record { register = whole; value = Operated (Reg Sll) operand (Number bits) })
      facts
  pub within : bits < 64
  pub fewer : by < bits
  pub left : rest ≡ bits - by
  pub low : whole < registers

-- ---- registers whose low bits are another's, as far as a store writes them

-- the register of which a value is the extension, back from so many bits further left
abbrev pub extended_from : Expression → (bits : ℕ) → Option ℕ
extended_from (Extended op (At q) k) n = if nat_eq k n && is_back op then Some q else None
extended_from e n = None

-- the register of which a value is the low byte
abbrev pub masked_from : Expression → Option ℕ
masked_from (Operated (Reg And) (At q) (Number n)) = if nat_eq n 255 then Some q else None
masked_from e = None

-- the register that has the low bits of a value, as many as a store of this size writes
abbrev pub low_of : Size → Expression → Option ℕ
low_of Byte e = first_of (masked_from e) (extended_from e 56)
low_of Half e = extended_from e 48
low_of Word e = extended_from e 32
low_of Long e = None

-- the register may be stored in the place of the operand
abbrev pub IsNarrow : List Fact → Size → Operand ℕ → ℕ → Type 0
IsNarrow facts size (At r) q =
    (k : ℕ) × (e : Expression) ×
    ((slice_get facts k ≡ Some (record { register = r; value = e })) × (low_of size e ≡ Some q))
IsNarrow facts size a q = ⊥

-- ---- sums of three that are added in another order

-- it adds: longs, or words
abbrev pub is_sum : Operation → Bool
is_sum (Reg Add) = true
is_sum (RegW Addw) = true
is_sum op = false

-- it is a fact that the register holds this sum
abbrev pub Adds : List Fact → Operation → ℕ → (left right : Operand ℕ) → Type 0
Adds facts op r a b = IsIn (record { register = r; value = Operated op a b }) facts

-- the register is known to hold the sum, in either order
pub data IsSum (facts : List Fact) (op : Operation) (r : ℕ) (a b : Operand ℕ) : Type 0 where
  InOrder : Adds facts op r a b → IsSum facts op r a b
  Turned : Adds facts op r b a → IsSum facts op r a b

-- y is known as the sum of two, and the sum of one of them and of what is added is known: so the sum
-- of y and of what is added is that of `part` and of the other one
pub record IsRegrouped (registers : ℕ) (facts : List Fact) (op : Operation) (y : ℕ)
    (added : Operand ℕ) (part : ℕ) (rest : Operand ℕ) : Type 0 where
  pub kept : Operand ℕ
  pub adds : is_sum op ≡ true
  pub sum : IsSum facts op y kept rest
  pub known : IsSum facts op part kept (copied facts added)
  pub first : part < registers
  pub second : operand_keeps (is_below registers) rest ≡ true

-- the register holds what the expression gives
pub data Holds (facts : List Fact) (r : ℕ) (e : Expression) : Type 0 where
  Found : IsIn (record { register = r; value = e }) facts → Holds facts r e
  Already : IsItself facts r e → Holds facts r e
  Counted : {l : Expression} → linear_in facts e ≡ Some l → IsIn (record { register = r; value = l }) facts → Holds facts r e

-- a line itself; or a copy of a register of the function that holds what the line computes; or a
-- store of a register that has the bits that are stored; or a sum of three, of which the sum of two
-- is known; or an extension that is shifted to the left, as what
-- it was halfway, shifted back by less; or an extension of what was loaded, as another load; or one of these in the place of another
pub data Made (registers : ℕ) (facts : List Fact) : Line ℕ → Line ℕ → Type 0 where
  Itself : {l : Line ℕ} → Made registers facts l l
  Copy : {l : Line ℕ} {f : Fact} {r : ℕ} → computed l ≡ Some f → r < registers → Holds facts r (canonical facts f.value) → Made registers facts l (Set f.register (At r))
  Narrow : {size : Size} {a : Operand ℕ} {at : Address ℕ} {q : ℕ} → IsNarrow facts size a q → q < registers → Made registers facts (Store size a at) (Store size (At q) at)
  FirstRegrouped : {op : Operation} {to y part : ℕ} {added rest : Operand ℕ} → IsRegrouped registers facts op (source facts y) added part rest → Made registers facts (Operate to op (At y) added) (Operate to op (At part) rest)
  SecondRegrouped : {op : Operation} {to y part : ℕ} {added rest : Operand ℕ} → IsRegrouped registers facts op (source facts y) added part rest → Made registers facts (Operate to op added (At y)) (Operate to op (At part) rest)
  Halfway : {to y by whole rest : ℕ} → IsHalfway registers facts (source facts y) by whole rest → Made registers facts (Operate to (Reg Sll) (At y) (Number by)) (Operate to (Reg Srl) (At whole) (Number rest))
  Reloaded : {to y k : ℕ} {o : Operation} {op : LoadOp} {at : Address ℕ} → IsReloaded registers facts (canonical facts (Operated o (At y) (Number k))) op at → Made registers facts (Operate to o (At y) (Number k)) (Load to op at)
  Again : {l k m : Line ℕ} → Made registers facts l k → Made registers facts k m → Made registers facts l m

-- the facts claimed where a block begins
abbrev pub claims_at : List (List Fact) → ℕ → List Fact
claims_at claims k = option_map_or (λ (facts : List Fact). facts) (slice_get claims k) []

-- ---- what a jump says

abbrev pub order_of : Class → (less more : Operand ℕ) → Option Order
order_of k a b = Some (record { class = k; less = a; more = b })

-- the number before and behind it, modulo 2^64
abbrev pub before : ℕ → ℕ
before n = (n + (2 ^ 64 - 1)) % 2 ^ 64

abbrev pub next : ℕ → ℕ
next n = (n + 1) % 2 ^ 64

-- no signed number of the class is less, or none is more
abbrev pub is_least : Class → ℕ → Bool
is_least W n = nat_eq (n % 2 ^ 32) (2 ^ 31)
is_least L n = nat_eq (n % 2 ^ 64) (2 ^ 63)

abbrev pub is_most : Class → ℕ → Bool
is_most W n = nat_eq (n % 2 ^ 32) (2 ^ 31 - 1)
is_most L n = nat_eq (n % 2 ^ 64) (2 ^ 63 - 1)

-- what is no less than a number is more than the one before it, and what is no more is less than the
-- one behind it
abbrev pub at_least : Class → (more least : Operand ℕ) → Option Order
at_least k a (Number n) = if is_least k n then None else order_of k (Number (before n)) a
at_least k a b = None

abbrev pub at_most : Class → (less most : Operand ℕ) → Option Order
at_most k a (Number n) = if is_most k n then None else order_of k a (Number (next n))
at_most k a b = None

-- which of two operands is less, as signed numbers of the class, where the comparison holds
abbrev pub order_met : Condition → Class → (left right : Operand ℕ) → Option Order
order_met SignedLess k a b = order_of k a b
order_met SignedGreater k a b = order_of k b a
order_met SignedGreaterEqual k a b = at_least k a b
order_met SignedLessEqual k a b = at_most k a b
order_met on k a b = None

-- ... where it doesn't hold
abbrev pub order_missed : Condition → Class → (left right : Operand ℕ) → Option Order
order_missed SignedGreaterEqual k a b = order_of k a b
order_missed SignedLessEqual k a b = order_of k b a
order_missed SignedLess k a b = at_least k a b
order_missed SignedGreater k a b = at_most k a b
order_missed on k a b = None

-- the register holds a word that stands extended: by its mark it never holds anything else, or it is
-- known here
abbrev pub holds_word : List Bool → List Fact → ℕ → Bool
holds_word marks facts r = is_marked marks r || is_word facts r

-- so does the operand
abbrev pub is_limit : List Bool → List Fact → Operand ℕ → Bool
is_limit marks facts (At r) = holds_word marks facts r
is_limit marks facts (Number n) = stands n
is_limit marks facts (Name g) = false

-- what is less or more as a number of this class than the operand is so than a word
abbrev pub limits : List Bool → List Fact → Class → Operand ℕ → Bool
limits marks facts W a = true
limits marks facts L a = is_limit marks facts a

-- the register is said to be less than a word
abbrev pub bounds : List Bool → List Fact → Option Order → ℕ → Bool
bounds marks facts (Some o) r = names r o.less && limits marks facts o.class o.more
bounds marks facts None r = false

-- ... to be more than one
abbrev pub exceeds : List Bool → List Fact → Option Order → ℕ → Bool
exceeds marks facts (Some o) r = names r o.more && limits marks facts o.class o.less
exceeds marks facts None r = false

-- the fact is known, or it is known of registers that are no copies; or a word that stands extended
-- is less than another, so that one more is the same as a word and as a long, or more than another,
-- so that one less is
pub data IsKnown (marks : List Bool) (facts : List Fact) (order : Option Order) : Fact → Type 0 where
  Listed : {f : Fact} → IsIn f facts → IsKnown marks facts order f
  OfCopies : {r : ℕ} {e : Expression} → IsIn (record { register = r; value = canonical facts e }) facts → IsKnown marks facts order (record { register = r; value = e })
  Bounded : {r : ℕ} → bounds marks facts order r ≡ true → holds_word marks facts r ≡ true → IsKnown marks facts order (record { register = r; value = Growing (At r) 1 })
  Above : {r : ℕ} → exceeds marks facts order r ≡ true → holds_word marks facts r ≡ true → IsKnown marks facts order (record { register = r; value = Growing (At r) (2 ^ 64 - 1) })

abbrev pub AllKnown : List Bool → List Fact → Option Order → (wanted : List Fact) → Type 0
AllKnown marks facts order [] = Unit {0}
AllKnown marks facts order (f ∷ wanted) =
    IsKnown marks facts order f × AllKnown marks facts order wanted

-- ---- lines and blocks, with the marks of registers that hold whole words alone

-- what is claimed of each block that a jump may lead to is known
abbrev pub LeadsWell : (marks : List Bool) → List (List Fact) → List Fact → Jump ℕ → Type 0
LeadsWell marks claims facts (Goto k) = AllKnown marks facts None (claims_at claims k)
LeadsWell marks claims facts (Branch on met otherwise) =
    AllKnown marks facts (order_met on.condition on.class on.left on.right) (claims_at claims met)
    × AllKnown marks facts (order_missed on.condition on.class on.left on.right)
    (claims_at claims otherwise)
LeadsWell marks claims facts (Return a) = Unit {0}
LeadsWell marks claims facts Halt = Unit {0}

-- lines before which these facts are known
abbrev pub AreReused : (registers : ℕ) → (marks : List Bool) → List (List Fact) → List Fact →
    (lines new : List (Line ℕ)) → Jump ℕ → Type 0
AreReused registers marks claims facts [] [] j = LeadsWell marks claims facts j
AreReused registers marks claims facts [] (m ∷ new) j = ⊥
AreReused registers marks claims facts (l ∷ lines) [] j = ⊥
AreReused registers marks claims facts (l ∷ lines) (m ∷ new) j =
    Made registers facts l m × AreReused registers marks claims (after m facts) lines new j

-- a block before which what is claimed of it is known, and which its ticks pay for
abbrev pub IsReused : (registers : ℕ) → (marks : List Bool) → List (List Fact) → ℕ →
    (b d : Block ℕ) → Type 0
IsReused registers marks claims k b d =
    (d.jump ≡ b.jump)
    × ((is_paid d ≡ true)
    × AreReused registers marks claims (claims_at claims k) b.lines d.lines b.jump)

-- blocks from this one on
abbrev pub AllReused : (registers : ℕ) → (marks : List Bool) → List (List Fact) → ℕ →
    (blocks new : List (Block ℕ)) → Type 0
AllReused registers marks claims k [] [] = Unit {0}
AllReused registers marks claims k [] (d ∷ new) = ⊥
AllReused registers marks claims k (b ∷ blocks) [] = ⊥
AllReused registers marks claims k (b ∷ blocks) (d ∷ new) =
    IsReused registers marks claims k b d × AllReused registers marks claims (k + 1) blocks new
