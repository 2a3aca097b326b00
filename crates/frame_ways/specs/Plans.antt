-- Which parts code is made of, and which block each of them is of.
use Rattle.std.specs.Prelude.{ℕ, Bool, false, nat_eq, List, Option, Some, None, not, ◌&&◌, ◌≡◌, true, nat_le, IsTrue, length, slice_get, nat_lt, [], map}
use Rattle.rv_isa.specs.declared.abi.TheConstants.{SAVED}
use Rattle.vcode.specs.declared.place.Location.{Location}
use Rattle.vcode.specs.declared.place.Location.TheVariants.{Register, Slot}
use Rattle.vcode.specs.declared.place.Destination.{Destination}
use Rattle.vcode.specs.declared.line.Line.{Line}
use Rattle.vcode.specs.declared.line.Line.TheVariants.{Set, Operate, Load, Alloc, Call}
use Rattle.std.specs.List.{list_all, list_any, sum_by}
use Rattle.vcode.specs.declared.code.Block.{Block}
use Rattle.vcode.specs.Prelude.{is_place, line_keeps, jump_keeps, located, block_keeps, are_near, are_distinct, affords, is_paid, leads_inside, turns_of, passes_few, is_alloc}
use Rattle.il_ast.specs.declared.limits.TheConstants.{FUNCTION_WEIGHT, ARGUMENTS}
use Rattle.vcode.specs.declared.line.Jump.{Jump}
use Rattle.vcode.specs.declared.line.Jump.TheVariants.{Goto, Branch, Return, Halt}
use Rattle.vcode.specs.declared.code.Code.{Code}
use Rattle.frame_ways.specs.declared.mark.Mark.{Mark}
use Rattle.frame_ways.specs.declared.mark.Mark.TheVariants.{Bare, Begin, Framed}
use Rattle.frame_ways.specs.declared.plan.Part.{Part}
use Rattle.frame_ways.specs.declared.plan.Plan.{Plan}

-- ---- what lines write, and which registers a callee keeps

-- a place that is the register of this number
abbrev pub is_register : (number : ℕ) → Location → Bool
is_register n (Register r) = nat_eq n r
is_register n (Slot i) = false

-- the result of a call goes to this register
abbrev pub receives : (number : ℕ) → Option (Destination Location) → Bool
receives n None = false
receives n (Some d) = is_register n d.place

-- a pointer to a block that is made goes to this register
abbrev pub makes_in : (number : ℕ) → Option Location → Bool
makes_in n None = false
makes_in n (Some p) = is_register n p

-- a line whose destination is this register
abbrev pub writes : (number : ℕ) → Line Location → Bool
writes n (Set to a) = is_register n to
writes n (Operate to op a b) = is_register n to
writes n (Load to op at) = is_register n to
writes n (Alloc to size) = makes_in n to
writes n (Call to callee args) = receives n to
writes n l = false

-- the registers that a function keeps for its caller and may write: x8, x9, x18 to x27
abbrev pub callee_saved : List ℕ
callee_saved = SAVED

-- ---- blocks that need no frame

-- a register, and none that a callee keeps
abbrev pub is_bare_place : Location → Bool
is_bare_place p = is_place 0 p && not (list_any (λ r. is_register r p) callee_saved)

abbrev pub touches_no_slot : Line Location → Bool
touches_no_slot (Alloc to size) = false
touches_no_slot (Call to callee args) = false
touches_no_slot l = line_keeps (is_place 0) l

-- no slot, no register that a callee keeps is written, no call and no block of memory
abbrev pub is_bare_line : Line Location → Bool
is_bare_line l = touches_no_slot l && not (list_any (λ r. writes r l) callee_saved)

abbrev pub is_bare_block : Block Location → Bool
is_bare_block b = list_all is_bare_line b.lines && jump_keeps (is_place 0) b.jump

-- ---- code whose blocks have marks: bare ones have no frame, and framed ones have; where the first come
-- to the second, it begins.
abbrev pub is_bare : Mark → Bool
is_bare Bare = true
is_bare Begin = false
is_bare Framed = false

abbrev pub is_framed : Mark → Bool
is_framed Bare = false
is_framed Begin = false
is_framed Framed = true

abbrev pub is_outside : Mark → Bool
is_outside m = not (is_framed m)

abbrev pub mark_of : Option Mark → Mark
mark_of None = Framed
mark_of (Some m) = m

-- where there is no mark, the block is framed
abbrev pub mark_at : List Mark → ℕ → Mark
mark_at marks k = mark_of (slice_get marks k)

-- all targets pass the test
abbrev pub leads : (test : ℕ → Bool) → Jump Location → Bool
leads test (Goto t) = test t
leads test (Branch on met otherwise) = test met && test otherwise
leads test j = true

-- so many instructions the call pays for at a begin, besides those that make the frame
abbrev pub begin_credit : ℕ
begin_credit = 2

-- a bare block leads to bare ones and to begins, and a begin to framed blocks, as these do: so the
-- frame is made once in a call
abbrev pub suits : List Mark → Mark → Block Location → Bool
suits marks Bare b =
    is_paid b && (is_bare_block b && leads (λ t. is_outside (mark_at marks t)) b.jump)
suits marks Begin b =
    affords begin_credit b.jump b.lines && leads (λ t. is_framed (mark_at marks t)) b.jump
suits marks Framed b = is_paid b && leads (λ t. is_framed (mark_at marks t)) b.jump

-- Code with marks that begins with a bare block, its parameters in registers that no callee keeps.
pub record IsMarked (f : Code Location) (slots : ℕ) (marks : List Mark) : Type 0 where
  pub few_params : IsTrue (nat_le (length f.params) ARGUMENTS)
  pub near : IsTrue (are_near f.params)
  pub apart : IsTrue (are_distinct located f.params)
  pub bare : IsTrue (list_all (λ (d : Destination Location). is_bare_place d.place) f.params)
  pub known : IsTrue (list_all (block_keeps (is_place slots)) f.blocks)
  pub inside : IsTrue (list_all (λ b. leads_inside (length f.blocks) b.jump) f.blocks)
  pub paced : IsTrue (list_all (λ b. nat_le (sum_by turns_of b.lines) FUNCTION_WEIGHT) f.blocks)
  pub few_args : IsTrue (list_all (λ b. list_all passes_few b.lines) f.blocks)
  pub none_made : IsTrue (list_all (λ b. not (list_any is_alloc b.lines)) f.blocks)
  pub first : IsTrue (is_bare (mark_at marks 0))
  pub suited : (k : ℕ) (b : Block Location) → slice_get f.blocks k ≡ Some b →
      IsTrue (suits marks (mark_at marks k) b)

-- ---- the code of a plan

abbrev pub number_of : Option ℕ → ℕ
number_of None = 0
number_of (Some n) = n

-- the part that stands for the block
abbrev pub part_for : List ℕ → (block : ℕ) → ℕ
part_for numbers t = number_of (slice_get numbers t)

-- to the parts that stand for the targets
abbrev pub renamed : List ℕ → Jump Location → Jump Location
renamed numbers (Goto t) = Goto (part_for numbers t)
renamed numbers (Branch on met otherwise) =
    Branch on (part_for numbers met) (part_for numbers otherwise)
renamed numbers (Return a) = Return a
renamed numbers Halt = Halt

abbrev pub with_targets : List ℕ → Block Location → Block Location
with_targets numbers b = record { lines = b.lines; jump = renamed numbers b.jump }

-- where the frame begins for the block
abbrev pub begin_for : Plan → (block : ℕ) → Block Location
begin_for plan k = record { lines = []; jump = Goto (part_for plan.behind k) }

-- a copy of the block, or what stands where the frame begins for it
abbrev pub copy_of : Plan → (block : ℕ) → Mark → Block Location → Block Location
copy_of plan k Bare b = with_targets plan.front b
copy_of plan k Begin b = begin_for plan k
copy_of plan k Framed b = with_targets plan.behind b

abbrev pub copied : Plan → Part → Option (Block Location) → Block Location
copied plan part None = record { lines = []; jump = Halt }
copied plan part (Some b) = copy_of plan part.block part.mark b

abbrev pub part_block : Code Location → Plan → Part → Block Location
part_block f plan part = copied plan part (slice_get f.blocks part.block)

abbrev pub planned : Code Location → Plan → Code Location
planned f plan =
    record {
      result = f.result;
      params = f.params;
      blocks = map (part_block f plan) plan.parts;
    }

abbrev pub marks_of : Plan → List Mark
marks_of plan = map (λ p. p.mark) plan.parts

-- ---- plans that are right

abbrev pub passes : {X : Type 0} → (X → Bool) → Option X → Bool
passes test None = false
passes test (Some x) = test x

-- a part of this block, with such a mark
abbrev pub is_of : (may : Mark → Bool) → (block : ℕ) → Part → Bool
is_of may t p = nat_eq p.block t && may p.mark

-- such a part, and not the first, stands for the block
abbrev pub stands_for : (may : Mark → Bool) → Plan → List ℕ → (block : ℕ) → Bool
stands_for may plan numbers t =
    nat_lt 0 (part_for numbers t)
    && passes (is_of may t) (slice_get plan.parts (part_for numbers t))

-- a bare block leads to what is outside of the frame; the frame begins for a block that has a framed
-- part, and framed blocks lead to framed ones
abbrev pub is_copy_right : Plan → (block : ℕ) → Mark → Block Location → Bool
is_copy_right plan k Bare b =
    is_bare_block b && leads (stands_for is_outside plan plan.front) b.jump
is_copy_right plan k Begin b = stands_for is_framed plan plan.behind k
is_copy_right plan k Framed b =
    nat_lt 0 k && leads (stands_for is_framed plan plan.behind) b.jump

abbrev pub is_part_right : Code Location → Plan → Part → Bool
is_part_right f plan part =
    passes (is_copy_right plan part.block part.mark) (slice_get f.blocks part.block)

-- parameters are in registers that no callee keeps, the first part is a bare one of the first block,
-- and all are right
abbrev pub is_plan : Code Location → Plan → Bool
is_plan f plan =
    list_all (λ (d : Destination Location). is_bare_place d.place) f.params
    && (passes (is_of is_bare 0) (slice_get plan.parts 0)
    && list_all (is_part_right f plan) plan.parts)
