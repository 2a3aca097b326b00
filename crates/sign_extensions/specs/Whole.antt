-- Registers that hold whole words, which stand sign-extended, whatever way the code goes; and the
-- code in which extensions of these are copies, and words that are passed from these are claimed to
-- stand extended.
use Rattle.std.specs.Prelude.{◌≡◌, ℕ, ◌-◌, ◌%◌, ◌^◌, Bool, true, false, not, ◌&&◌, ◌||◌, nat_eq, nat_lt, nat_le, if◌then◌else◌, List, map, slice_index_or, Option, Some, None, option_map}
use Rattle.std.specs.List.{list_all}
use Rattle.il_ast.specs.declared.operation.Class.{Class}
use Rattle.il_ast.specs.declared.operation.Class.TheVariants.{W, L}
use Rattle.rv_isa.specs.declared.instruction.RegOp.{RegOp}
use Rattle.rv_isa.specs.declared.instruction.RegOp.TheVariants.{And, Or, Xor}
use Rattle.rv_isa.specs.declared.instruction.RegWOp.TheVariants.{Addw}
use Rattle.rv_isa.specs.declared.instruction.LoadOp.{LoadOp}
use Rattle.rv_isa.specs.declared.instruction.LoadOp.TheVariants.{Ld, Lwu}
use Rattle.vcode.specs.declared.place.Operand.{Operand}
use Rattle.vcode.specs.declared.place.ReturnValue.{ReturnValue}
use Rattle.vcode.specs.declared.place.Operand.TheVariants.{At, Number, Name}
use Rattle.vcode.specs.declared.place.Destination.{Destination}
use Rattle.vcode.specs.declared.place.Argument.{Argument}
use Rattle.vcode.specs.declared.place.Extension.{Extension}
use Rattle.vcode.specs.declared.place.Extension.TheVariants.{Claimed}
use Rattle.vcode.specs.declared.line.Jump.{Jump}
use Rattle.vcode.specs.declared.line.Jump.TheVariants.{Return}
use Rattle.vcode.specs.declared.line.Operation.{Operation}
use Rattle.vcode.specs.declared.line.Operation.TheVariants.{Reg, RegW, Compare}
use Rattle.vcode.specs.declared.line.Line.{Line}
use Rattle.vcode.specs.declared.line.Line.TheVariants.{Set, Operate, Load, Call}
use Rattle.vcode.specs.declared.code.Block.{Block}
use Rattle.vcode.specs.declared.code.Code.{Code}
use Rattle.vcode.specs.declared.function.VFunc.{VFunc}

-- ---- what is whole

-- the number is the sign extension of its low 32 bits
abbrev pub is_whole_number : ℕ → Bool
is_whole_number n = nat_lt (n % 2 ^ 64) (2 ^ 31) || nat_le (2 ^ 64 - 2 ^ 31) (n % 2 ^ 64)

abbrev pub is_marked : List Bool → ℕ → Bool
is_marked marks r = slice_index_or marks r false

abbrev pub is_whole : List Bool → Operand ℕ → Bool
is_whole marks (At r) = is_marked marks r
is_whole marks (Number n) = is_whole_number n
is_whole marks (Name g) = false

-- of two whole words it makes a whole word
abbrev pub keeps_whole : RegOp → Bool
keeps_whole And = true
keeps_whole Or = true
keeps_whole Xor = true
keeps_whole op = false

abbrev pub gives_whole : List Bool → Operation → (left right : Operand ℕ) → Bool
gives_whole marks (Reg op) a b = keeps_whole op && (is_whole marks a && is_whole marks b)
gives_whole marks (RegW op) a b = true
gives_whole marks (Compare on k) a b = true

abbrev pub loads_whole : LoadOp → Bool
loads_whole Ld = false
loads_whole Lwu = false
loads_whole op = true

abbrev pub is_word : Class → Bool
is_word W = true
is_word L = false

-- what comes from outside is whole where it is a word
abbrev pub takes_whole : List Bool → Destination ℕ → Bool
takes_whole marks d = not (is_marked marks d.place) || is_word d.class

abbrev pub wants_whole : List Bool → Option (Destination ℕ) → Bool
wants_whole marks None = true
wants_whole marks (Some d) = takes_whole marks d

-- what the line writes to a marked register is whole, or a pointer or a function
abbrev pub keeps_marks : List Bool → Line ℕ → Bool
keeps_marks marks (Set to a) = not (is_marked marks to) || is_whole marks a
keeps_marks marks (Operate to op a b) = not (is_marked marks to) || gives_whole marks op a b
keeps_marks marks (Load to op at) = not (is_marked marks to) || loads_whole op
keeps_marks marks (Call to callee args) = wants_whole marks to
keeps_marks marks l = true

-- no line and no parameter writes anything else to a marked register
abbrev pub are_closed : List Bool → Code ℕ → Bool
are_closed marks f =
    list_all (takes_whole marks) f.params && list_all
    (λ (b : Block ℕ). list_all (keeps_marks marks) b.lines) f.blocks

-- ---- copies

-- the operation extends the low 32 bits of a marked register
abbrev pub is_extension : List Bool → Operation → (left right : Operand ℕ) → Bool
is_extension marks (RegW Addw) (At r) (Number n) = nat_eq n 0 && is_marked marks r
is_extension marks op a b = false

abbrev pub put_line : List Bool → ℕ → Operation → (left right : Operand ℕ) → Line ℕ
put_line marks to op a b = if is_extension marks op a b then Set to a else Operate to op a b

-- ---- claims

-- what is passed from a marked register is claimed to stand extended
abbrev pub claim : List Bool → Operand ℕ → Extension → Extension
claim marks a t = if is_whole marks a then Claimed else t

abbrev pub with_claim : List Bool → Argument ℕ → Argument ℕ
with_claim marks a =
    record { class = a.class; value = a.value; extension = claim marks a.value a.extension }

abbrev pub returned_claim : List Bool → ReturnValue ℕ → ReturnValue ℕ
returned_claim marks a = record { value = a.value; extension = claim marks a.value a.extension }

abbrev pub jump_claim : List Bool → Jump ℕ → Jump ℕ
jump_claim marks (Return a) = Return (option_map (returned_claim marks) a)
jump_claim marks j = j

-- ---- each line

abbrev pub with_copy : List Bool → Line ℕ → Line ℕ
with_copy marks (Operate to op a b) = put_line marks to op a b
with_copy marks (Call to callee args) = Call to callee (map (with_claim marks) args)
with_copy marks l = l

abbrev pub with_copies : List Bool → Block ℕ → Block ℕ
with_copies marks b =
    record { lines = map (with_copy marks) b.lines; jump = jump_claim marks b.jump }

-- the second is the first with copies in the place of extensions of such registers, and with the
-- claims
pub record IsCopied (v w : VFunc) : Type 0 where
  pub marks : List Bool
  pub closed : are_closed marks v.code ≡ true
  pub result : w.code.result ≡ v.code.result
  pub params : w.code.params ≡ v.code.params
  pub blocks : w.code.blocks ≡ map (with_copies marks) v.code.blocks
  pub registers : w.registers ≡ v.registers
