-- Code in which a constant stands in a register of its own: the register is set in front of loops
-- and read inside.
use Rattle.std.specs.Prelude.{ℕ, ◌+◌, Bool, true, false, not, ◌&&◌, ◌||◌, nat_eq, nat_lt, if◌then◌else◌, List, [], ◌∷◌, ◌++◌, map, slice_index_or}
use Rattle.std.specs.List.{list_all}
use Rattle.vcode.specs.declared.place.Operand.{Operand}
use Rattle.vcode.specs.declared.place.Operand.TheVariants.{At, Number, Name}
use Rattle.vcode.specs.declared.line.Line.{Line}
use Rattle.vcode.specs.declared.line.Line.TheVariants.{Set}
use Rattle.vcode.specs.declared.code.Block.{Block}
use Rattle.vcode.specs.declared.code.Code.{Code}
use Rattle.vcode.specs.declared.function.VFunc.{VFunc}
use Rattle.vcode.specs.Prelude.{is_paid, keeps_places, Replacing, with_line, with_jump}
use Rattle.flow.specs.Successors.{successors}
use Rattle.constant_placement.specs.declared.hoisting.plan.Constant.{Constant}
use Rattle.constant_placement.specs.declared.hoisting.plan.Constant.TheVariants.{Number as OfNumber, Name as OfName}
use Rattle.constant_placement.specs.declared.hoisting.plan.Plan.{Plan}

-- ---- the constant

abbrev pub operand_of : Constant → Operand ℕ
operand_of (OfNumber n) = Number n
operand_of (OfName g) = Name g

abbrev pub is_it : Constant → Operand ℕ → Bool
is_it (OfNumber n) (Number m) = nat_eq n m
is_it (OfName g) (Name h) = nat_eq g h
is_it c a = false

-- ---- where it is held and set, by the numbers of blocks

abbrev pub is_held : Plan → ℕ → Bool
is_held p k = slice_index_or p.holds.items k false

abbrev pub is_set : Plan → ℕ → Bool
is_set p k = slice_index_or p.sets.items k false

-- ---- operands, lines and jumps of a block that holds it, or doesn't

abbrev pub replaced : Plan → (held : Bool) → Replacing
replaced p held a = if held && is_it p.constant a then At p.register else a

-- ---- blocks

-- the line right before the jump of a block that sets it
abbrev pub setting : Plan → (set : Bool) → List (Line ℕ)
setting p set = if set then Set p.register (operand_of p.constant) ∷ [] else []

abbrev pub held_block : Plan → (held set : Bool) → Block ℕ → Block ℕ
held_block p held set b =
    record {
      lines = map (with_line (replaced p held)) b.lines ++ setting p set;
      jump = with_jump (replaced p held) b.jump;
    }

-- the blocks from the k-th on
abbrev pub with_blocks : Plan → (k : ℕ) → List (Block ℕ) → List (Block ℕ)
with_blocks p k [] = []
with_blocks p k (b ∷ blocks) =
    held_block p (is_held p k) (is_set p k) b ∷ with_blocks p (k + 1) blocks

abbrev pub with_constant : Plan → Code ℕ → Code ℕ
with_constant p f =
    record { result = f.result; params = f.params; blocks = with_blocks p 0 f.blocks }

-- ---- what a plan has to keep

abbrev pub is_other : (register : ℕ) → ℕ → Bool
is_other register r = not (nat_eq r register)

-- to a block that holds it the code comes only from where the register has it
abbrev pub may_lead : Plan → (has : Bool) → ℕ → Bool
may_lead p has k = has || not (is_held p k)

abbrev pub leads_well : Plan → (k : ℕ) → List (Block ℕ) → Bool
leads_well p k [] = true
leads_well p k (b ∷ blocks) =
    list_all (may_lead p (is_held p k || is_set p k)) (successors b.jump)
    && leads_well p (k + 1) blocks

-- the code names the register nowhere, begins in a block that doesn't hold the constant, and comes
-- to the others by way of one that sets it
abbrev pub is_safe : Plan → Code ℕ → Bool
is_safe p f =
    keeps_places (is_other p.register) f && (not (is_held p 0) && leads_well p 0 f.blocks)

-- the register is one of the function's, and the ticks still pay
abbrev pub is_right : Plan → VFunc → Bool
is_right p f =
    nat_lt p.register f.registers && (is_safe p f.code
    && list_all is_paid (with_blocks p 0 f.code.blocks))
