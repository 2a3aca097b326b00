-- The places that a code names.
use Rattle.std.specs.Prelude.{ℕ, Bool, true, not, ◌&&◌, nat_lt, nat_le, List, [], ◌∷◌, Option, Some, None}
use Rattle.std.specs.List.{list_all, list_any}
use Rattle.rv_isa.specs.declared.abi.TheConstants.{FIRST_TEMPORARY, LAST_SAVED}
use Rattle.vcode.specs.declared.place.Operand.{Operand}
use Rattle.vcode.specs.declared.place.Operand.TheVariants.{At}
use Rattle.vcode.specs.declared.place.Destination.{Destination}
use Rattle.vcode.specs.declared.place.Location.{Location}
use Rattle.vcode.specs.declared.place.Location.TheVariants.{Register, Slot}
use Rattle.vcode.specs.declared.line.Line.{Line}
use Rattle.vcode.specs.declared.line.Line.TheVariants.{Tick, Set, Operate, Load, Store, Alloc, Blit, Call}
use Rattle.vcode.specs.declared.line.Jump.{Jump}
use Rattle.vcode.specs.declared.line.Jump.TheVariants.{Goto, Branch, Return, Halt}
use Rattle.vcode.specs.declared.code.Block.{Block}
use Rattle.vcode.specs.declared.code.Code.{Code}
use Rattle.vcode.specs.Places.{Places}

-- each place that is read or written passes the test
abbrev pub operand_keeps : {P : Type 0} → (P → Bool) → Operand P → Bool
operand_keeps test (At p) = test p
operand_keeps test a = true

abbrev pub wanted_keeps : {P : Type 0} → (P → Bool) → Option (Destination P) → Bool
wanted_keeps test None = true
wanted_keeps test (Some d) = test d.place

abbrev pub made_keeps : {P : Type 0} → (P → Bool) → Option P → Bool
made_keeps test None = true
made_keeps test (Some p) = test p

abbrev pub line_keeps : {P : Type 0} → (P → Bool) → Line P → Bool
line_keeps test (Tick turn w) = true
line_keeps test (Set to a) = test to && operand_keeps test a
line_keeps test (Operate to op a b) = test to && (operand_keeps test a && operand_keeps test b)
line_keeps test (Load to op at) = test to && operand_keeps test at.base
line_keeps test (Store size a at) = operand_keeps test a && operand_keeps test at.base
line_keeps test (Alloc to size) = made_keeps test to
line_keeps test (Blit from to count) = operand_keeps test from && operand_keeps test to
line_keeps test (Call to callee args) =
    wanted_keeps test to && (operand_keeps test callee
    && list_all (λ a. operand_keeps test a.value) args)

abbrev pub jump_keeps : {P : Type 0} → (P → Bool) → Jump P → Bool
jump_keeps test (Goto k) = true
jump_keeps test (Branch on met otherwise) =
    operand_keeps test on.left && operand_keeps test on.right
jump_keeps test (Return None) = true
jump_keeps test (Return (Some a)) = operand_keeps test a.value
jump_keeps test Halt = true

abbrev pub block_keeps : {P : Type 0} → (P → Bool) → Block P → Bool
block_keeps test b = list_all (line_keeps test) b.lines && jump_keeps test b.jump

abbrev pub keeps_places : {P : Type 0} → (P → Bool) → Code P → Bool
keeps_places test f = list_all (λ d. test d.place) f.params && list_all (block_keeps test) f.blocks

-- no two parameters have one place
abbrev pub are_distinct : {P : Type 0} → Places P → List (Destination P) → Bool
are_distinct c [] = true
are_distinct c (d ∷ ds) = not (list_any (λ e. c.same d.place e.place) ds) && are_distinct c ds

-- ---- virtual registers

abbrev pub is_below : ℕ → ℕ → Bool
is_below registers p = nat_lt p registers

-- a parameter's register has a slot of its number that one instruction reaches
abbrev pub are_low : List (Destination ℕ) → Bool
are_low params = list_all (λ (d : Destination ℕ). nat_lt d.place 128) params

-- ---- registers and slots

-- temporaries, arguments and saved registers; the scratch registers are free for the instructions
-- that a line becomes
abbrev pub is_place : (slots : ℕ) → Location → Bool
is_place slots (Register r) = nat_le FIRST_TEMPORARY r && nat_le r LAST_SAVED
is_place slots (Slot s) = nat_lt s slots

-- a parameter's slot is reached by one instruction
abbrev pub is_near : Location → Bool
is_near (Register r) = true
is_near (Slot s) = nat_lt s 128

abbrev pub are_near : List (Destination Location) → Bool
are_near params = list_all (λ (d : Destination Location). is_near d.place) params
