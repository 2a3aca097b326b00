-- Code in which operands and branches are put by what is known of registers.
use Rattle.std.specs.Prelude.{ℕ, Bool, true, false, not, ◌&&◌, nat_eq, nat_lt, if◌then◌else◌, Option, Some, None, ◌≡◌, List, [], ◌∷◌, slice_get, ◌⊎◌, ◌+◌, ◌%◌, ◌^◌, map}
use Rattle.std.specs.Option.{option_map_or, option_map}
use Rattle.vcode.specs.declared.place.Operand.{Operand}
use Rattle.vcode.specs.declared.place.Operand.TheVariants.{At, Number, Name}
use Rattle.vcode.specs.declared.line.Line.{Line}
use Rattle.vcode.specs.declared.line.Line.TheVariants.{Set, Operate, Store, Alloc, Blit, Call, Tick, Load}
use Rattle.rv_isa.specs.declared.instruction.RegOp.TheVariants.{Add}
use Rattle.vcode.specs.declared.line.Operation.{Operation}
use Rattle.vcode.specs.declared.line.Operation.TheVariants.{Reg, Compare}
use Rattle.cfg_live.specs.Registers.{line_writes}
use Rattle.propagation.specs.declared.constants.fact.Fact.{Fact}
use Rattle.propagation.specs.declared.constants.fact.Fact.TheVariants.{Same, Sum, Test}
use Rattle.propagation.specs.FactTable.{Facts, fact_names, asks_memory, fact_below, kept_if, shortened}
use Rattle.vcode.specs.declared.line.Jump.{Jump}
use Rattle.vcode.specs.declared.line.Jump.TheVariants.{Goto, Branch, Return, Halt}
use Rattle.propagation.specs.declared.constants.claim.Claim.{Claim}
use Rattle.propagation.specs.declared.constants.claim.Entry.{Entry}
use Rattle.il_ast.specs.declared.operation.Class.{Class}
use Rattle.il_ast.specs.declared.operation.Condition.{Condition}
use Rattle.il_ast.specs.declared.operation.Condition.TheVariants.{Equal, NotEqual}
use Rattle.il_ast.specs.Prelude.{modulus, holds}
use Rattle.vcode.specs.declared.place.Address.{Address}
use Rattle.vcode.specs.Prelude.{distance, beyond, is_immediate, affords, with_base, with_argument, with_returned, with_comparison}
use Rattle.vcode.specs.declared.line.Comparison.{Comparison}
use Rattle.vcode.specs.declared.code.Block.{Block}

-- ---- what is known of registers behind a line
abbrev pub is_add : Operation → Bool
is_add (Reg Add) = true
is_add op = false

abbrev pub changes_memory : Line ℕ → Bool
changes_memory (Store size a at) = true
changes_memory (Alloc to size) = true
changes_memory (Blit from to count) = true
changes_memory (Call to callee args) = true
changes_memory l = false

abbrev pub writes_it : Line ℕ → ℕ → Bool
writes_it l r = option_map_or (λ k. nat_eq k r) (line_writes l) false

-- a sum of a register and a number
abbrev pub sum_of : (a b : Operand ℕ) → Option Fact
sum_of (At r) (Number n) = Some (Sum (At r) n)
sum_of a b = None

-- what a line makes known of the register that it writes
abbrev pub fact_of : Line ℕ → Option Fact
fact_of (Set to a) = Some (Same a)
fact_of (Operate to (Reg op) a b) = if is_add (Reg op) then sum_of a b else None
fact_of (Operate to (Compare on k) a b) =
    Some (Test (record { condition = on; class = k; left = a; right = b }))
fact_of l = None

-- a line leaves a fact true that names no register that it writes, and asks no memory that it
-- changes
abbrev pub leaves : Line ℕ → Fact → Bool
leaves l f =
    not (option_map_or (fact_names f) (line_writes l) false)
    && not (changes_memory l && asks_memory f)

-- what is known after a line, of n registers: what it makes known, and what was known, each if the
-- line leaves it true
abbrev pub after : (n : ℕ) → Line ℕ → Facts → Facts
after n l fs r =
    kept_if (λ f. nat_lt r n && (fact_below n f && leaves l f))
    (if writes_it l r then fact_of l else fs r)

-- ---- what is claimed of registers where blocks begin, and what is known there by it

-- what is claimed where the block begins
abbrev pub claims_at : List Entry → (block : ℕ) → List Claim
claims_at entries k = option_map_or (λ (e : Entry). e.claims) (slice_get entries k) []

-- a line that makes it true
abbrev pub making : Claim → Line ℕ
making c = Set c.register c.value

-- what is known, of n registers, where what was known is and these are claimed: as behind lines that
-- make them true
abbrev pub claimed : (n : ℕ) → Facts → List Claim → Facts
claimed n fs [] = fs
claimed n fs (c ∷ claims) = claimed n (after n (making c) fs) claims

-- what is known where the block begins
abbrev pub known_at : (n : ℕ) → List Entry → (block : ℕ) → Facts
known_at n entries k = claimed n (λ r. None) (claims_at entries k)

-- each claim is known to be true
abbrev pub AreKnown : Facts → List Claim → Type 0
AreKnown fs [] = Unit {0}
AreKnown fs (c ∷ claims) = (fs c.register ≡ Some (Same c.value)) × AreKnown fs claims

-- ... of each block to which the jump may lead
abbrev pub LeadsWell : List Entry → Facts → Jump ℕ → Type 0
LeadsWell entries fs (Goto k) = AreKnown fs (claims_at entries k)
LeadsWell entries fs (Branch on met otherwise) =
    AreKnown fs (claims_at entries met) × AreKnown fs (claims_at entries otherwise)
LeadsWell entries fs (Return a) = Unit {0}
LeadsWell entries fs Halt = Unit {0}

-- ---- operands

-- a register, or a number that is an immediate
abbrev pub is_short : Operand ℕ → Bool
is_short (At r) = true
is_short (Number n) = is_immediate n
is_short (Name g) = false

abbrev pub copied : Operand ℕ → Fact → Operand ℕ
copied a (Same b) = if is_short b then b else a
copied a (Sum b n) = a
copied a (Test c) = a

-- what an operand is known to be a copy of, in its place
abbrev pub propagate : Facts → Operand ℕ → Operand ℕ
propagate fs (At r) = option_map_or (copied (At r)) (fs r) (At r)
propagate fs a = a

-- ---- lines

-- the operands of a sum with a number of what is known to be one
abbrev pub regrouped : Option Fact → (r m : ℕ) → Operand ℕ × Operand ℕ
regrouped (Some (Sum (At b) n)) r m =
    if is_immediate ((n + m) % 2 ^ 64) then (At b, Number ((n + m) % 2 ^ 64)) else (At r, Number m)
regrouped o r m = (At r, Number m)

abbrev pub grouped : Facts → (a b : Operand ℕ) → Operand ℕ × Operand ℕ
grouped fs (At r) (Number m) = regrouped (fs r) r m
grouped fs a b = (a, b)

abbrev pub folded : Facts → Operation → (a b : Operand ℕ) → Operand ℕ × Operand ℕ
folded fs op a b = if is_add op then grouped fs a b else (a, b)

abbrev pub operands_of : Facts → Operation → (a b : Operand ℕ) → Operand ℕ × Operand ℕ
operands_of fs op a b = folded fs op (propagate fs a) (propagate fs b)

-- an address from what its base is known to be a sum of, where the offset still fits and is not 0
abbrev pub further : Address ℕ → Option Fact → Address ℕ
further at (Some (Sum (At b) n)) =
    let d = (n + distance at) % 2 ^ 64 in if not (nat_eq d 0) && is_immediate d then beyond (At b) d
    else at
further at o = at

abbrev pub from_base : Facts → Address ℕ → Operand ℕ → Address ℕ
from_base fs at (At r) = further at (fs r)
from_base fs at a = at

abbrev pub with_address : Facts → Address ℕ → Address ℕ
with_address fs at = from_base fs (with_base (propagate fs) at) (propagate fs at.base)

abbrev pub with_line : Facts → Line ℕ → Line ℕ
with_line fs (Tick turn w) = Tick turn w
with_line fs (Set to a) = Set to (propagate fs a)
with_line fs (Operate to op a b) = Operate to op (operands_of fs op a b).0 (operands_of fs op a b).1
with_line fs (Load to op at) = Load to op (with_address fs at)
with_line fs (Store size a at) = Store size (propagate fs a) (with_address fs at)
with_line fs (Alloc to size) = Alloc to size
with_line fs (Blit from to count) = Blit (propagate fs from) (propagate fs to) count
with_line fs (Call to callee args) =
    Call to (propagate fs callee) (map (with_argument (propagate fs)) args)

-- ---- jumps

-- the comparison whose result this one compares with 0
abbrev pub test_of : Option Fact → Option (Comparison ℕ)
test_of (Some (Test c)) = Some c
test_of o = None

abbrev pub tested_by : Facts → (left right : Operand ℕ) → Option (Comparison ℕ)
tested_by fs (At r) (Number n) = if nat_eq n 0 then test_of (fs r) else None
tested_by fs a b = None

-- in place of a jump, if the lines before it pay for it
abbrev pub afforded : (lines : List (Line ℕ)) → (old new : Jump ℕ) → Jump ℕ
afforded lines old new = if affords 0 new lines then new else old

abbrev pub with_test : (lines : List (Line ℕ)) → Condition → Comparison ℕ → (met otherwise : ℕ) →
    Option (Comparison ℕ) → Jump ℕ
with_test lines NotEqual on met otherwise (Some c) =
    afforded lines (Branch on met otherwise) (Branch c met otherwise)
with_test lines Equal on met otherwise (Some c) =
    afforded lines (Branch on met otherwise) (Branch c otherwise met)
with_test lines k on met otherwise o = Branch on met otherwise

abbrev pub with_branch : (lines : List (Line ℕ)) → Facts → Comparison ℕ → (met otherwise : ℕ) →
    Jump ℕ
with_branch lines fs on met otherwise =
    with_test lines on.condition on met otherwise (tested_by fs on.left on.right)

-- whether a comparison of two numbers, each read in a place of class k, holds
abbrev pub numbers_hold : Condition → Class → (left right : Operand ℕ) → Option Bool
numbers_hold on k (Number a) (Number b) = Some (holds on k (a % modulus k) (b % modulus k))
numbers_hold on k a b = None

-- a branch whose outcome is known is a jump
abbrev pub decided : Option Bool → (met otherwise : ℕ) → Jump ℕ → Jump ℕ
decided (Some t) met otherwise j = Goto (if t then met else otherwise)
decided None met otherwise j = j

abbrev pub with_outcome : (lines : List (Line ℕ)) → Facts → Comparison ℕ → (met otherwise : ℕ) →
    Jump ℕ
with_outcome lines fs on met otherwise =
    decided (numbers_hold on.condition on.class on.left on.right) met otherwise
    (with_branch lines fs on met otherwise)

-- the jump after all these lines
abbrev pub with_jump : (lines : List (Line ℕ)) → Facts → Jump ℕ → Jump ℕ
with_jump lines fs (Goto k) = Goto k
with_jump lines fs (Branch on met otherwise) =
    with_outcome lines fs (with_comparison (propagate fs) on) met otherwise
with_jump lines fs (Return a) = Return (option_map (with_returned (propagate fs)) a)
with_jump lines fs Halt = Halt

-- a line in the place of one: that itself, or as it is put by what is known, in its short form
abbrev pub IsPut : Facts → (l m : Line ℕ) → Type 0
IsPut fs l m = (m ≡ l) ⊎ (m ≡ shortened (with_line fs l))

-- a jump in the place of one, after all these lines
abbrev pub IsPutJump : (lines : List (Line ℕ)) → Facts → (j k : Jump ℕ) → Type 0
IsPutJump lines fs j k = (k ≡ j) ⊎ (k ≡ with_jump lines fs j)

-- ---- blocks

-- the lines and the jump, each put by what is known, which is `fs` before them, or as it was; `whole`
-- is all lines of the new block; what is claimed where it leads is known
abbrev pub AreForwarded : (n : ℕ) → List Entry → (whole : List (Line ℕ)) → Facts →
    (lines new : List (Line ℕ)) → (jump next : Jump ℕ) → Type 0
AreForwarded n entries whole fs [] [] j k =
    IsPutJump whole fs j k × LeadsWell entries fs k
AreForwarded n entries whole fs [] (m ∷ new) j k = ⊥
AreForwarded n entries whole fs (l ∷ lines) [] j k = ⊥
AreForwarded n entries whole fs (l ∷ lines) (m ∷ new) j k =
    IsPut fs l m × AreForwarded n entries whole (after n m fs) lines new j k

-- a block, from what is claimed where it begins
abbrev pub IsForwarded : (n : ℕ) → List Entry → (block : ℕ) → (b c : Block ℕ) → Type 0
IsForwarded n entries k b c =
    AreForwarded n entries c.lines (known_at n entries k) b.lines c.lines b.jump c.jump

-- blocks from this one on
abbrev pub AllForwarded : (n : ℕ) → List Entry → (block : ℕ) → (blocks new : List (Block ℕ)) →
    Type 0
AllForwarded n entries k [] [] = Unit {0}
AllForwarded n entries k [] (c ∷ new) = ⊥
AllForwarded n entries k (b ∷ blocks) [] = ⊥
AllForwarded n entries k (b ∷ blocks) (c ∷ new) =
    IsForwarded n entries k b c × AllForwarded n entries (k + 1) blocks new
