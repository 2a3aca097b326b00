-- Virtual code for a function without phis, whose temporaries have these classes. A temporary
-- becomes the virtual register of its number. A word stands sign-extended there, and what reads a
-- word takes the low 32 bits, so that a long needs no conversion in a word's place, and a word none
-- in a word's.
use Rattle.std.specs.Prelude.{ℕ, ◌%◌, ◌^◌, Bool, true, false, ◌&&◌, List, [], ◌∷◌, ◌++◌, map, Some, option_map, ◌-◌, nat_lt, if◌then◌else◌, length, slice_get, Option, None, flat_map, IsTrue}
use Rattle.bits.specs.Words.{sign_extended}
use Rattle.il_ast.specs.declared.operation.Class.{Class}
use Rattle.il_ast.specs.declared.operation.Class.TheVariants.{W, L}
use Rattle.il_ast.specs.declared.operation.Extension.{Extension}
use Rattle.il_ast.specs.declared.operation.Extension.TheVariants.{SignedWord, UnsignedWord, SignedHalf, UnsignedHalf, SignedByte, UnsignedByte}
use Rattle.il_ast.specs.declared.operation.UnaryOp.{UnaryOp}
use Rattle.il_ast.specs.declared.operation.UnaryOp.TheVariants.{Neg, Copy, Extend, LoadLong, Load as LoadNarrow}
use Rattle.il_ast.specs.declared.operation.Condition.{Condition}
use Rattle.il_ast.specs.declared.operation.Condition.TheVariants.{NotEqual}
use Rattle.il_ast.specs.declared.operation.BinaryOp.{BinaryOp}
use Rattle.il_ast.specs.declared.operation.BinaryOp.TheVariants.{Add, Sub, Mul, And, Or, Xor, Div, Rem, Udiv, Urem, Sar, Shr, Shl, Compare}
use Rattle.il_ast.specs.declared.operand.Val.{Val}
use Rattle.il_ast.specs.declared.operand.Val.TheVariants.{Int, Temp, Global}
use Rattle.il_ast.specs.declared.operand.Dest.{Dest}
use Rattle.il_ast.specs.declared.operand.Arg.{Arg}
use Rattle.il_ast.specs.declared.instruction.Inst.{Inst}
use Rattle.il_ast.specs.declared.instruction.Inst.TheVariants.{Unary, Binary, Alloc as AllocInst, Store as StoreInst, Blit as BlitInst, Call as CallInst}
use Rattle.il_ast.specs.declared.instruction.Lined.{Lined}
use Rattle.il_ast.specs.declared.block.Block.{Block}
use Rattle.il_ast.specs.declared.function.Param.{Param}
use Rattle.il_ast.specs.declared.function.Func.{Func}
use Rattle.il_ast.specs.Prelude.{same_class, inst_weight}
use Rattle.phi_copies.specs.declared.ending.Assignment.{Assignment}
use Rattle.phi_copies.specs.declared.ending.Leave.{Leave}
use Rattle.phi_copies.specs.declared.ending.Leave.TheVariants.{Goto, Branch, Return, Halt}
use Rattle.phi_copies.specs.declared.ending.Ending.{Ending}
use Rattle.phi_copies.specs.Endings.{Endings}
use Rattle.rv_isa.specs.declared.instruction.RegOp.{RegOp}
use Rattle.rv_isa.specs.declared.instruction.RegOp.TheVariants.{Add as AddReg, Sub as SubReg, Sll as SllReg, Srl as SrlReg, Sra as SraReg, Xor as XorReg, Or as OrReg, And as AndReg, Mul as MulReg, Div as DivReg, Divu as DivuReg, Rem as RemReg, Remu as RemuReg}
use Rattle.rv_isa.specs.declared.instruction.RegWOp.TheVariants.{Addw, Subw, Sllw, Srlw, Sraw, Mulw, Divw, Divuw, Remw, Remuw}
use Rattle.rv_isa.specs.declared.instruction.LoadOp.{LoadOp}
use Rattle.rv_isa.specs.declared.instruction.LoadOp.TheVariants.{Ld, Lw, Lwu, Lh, Lhu, Lb, Lbu}
use Rattle.vcode.specs.declared.place.Operand.{Operand}
use Rattle.vcode.specs.declared.place.ReturnValue.{ReturnValue}
use Rattle.vcode.specs.declared.place.Operand.TheVariants.{At, Number, Name}
use Rattle.vcode.specs.declared.place.Destination.{Destination}
use Rattle.vcode.specs.declared.place.Argument.{Argument}
use Rattle.vcode.specs.declared.place.Extension.TheVariants.{Made}
use Rattle.vcode.specs.declared.line.Operation.{Operation}
use Rattle.vcode.specs.declared.line.Operation.TheVariants.{Reg, RegW, Compare as CompareValues}
use Rattle.vcode.specs.declared.line.Line.{Line}
use Rattle.vcode.specs.Prelude.{at_once, keeps_places, is_below, are_low, are_distinct, virtual, IsRegular}
use Rattle.vcode.specs.declared.line.Line.TheVariants.{Tick, Set, Operate, Load, Store, Alloc, Blit, Call}
use Rattle.vcode.specs.declared.line.Comparison.{Comparison}
use Rattle.vcode.specs.declared.line.Jump.{Jump}
use Rattle.vcode.specs.declared.line.Jump.TheVariants.{Goto as GotoBlock, Branch as BranchTo, Return as ReturnWith, Halt as HaltRun}
use Rattle.vcode.specs.declared.code.Block.{Block as VirtualBlock}
use Rattle.vcode.specs.declared.code.Code.{Code}
use Rattle.select.specs.Typed.{Classes}
use Rattle.il_ast.specs.declared.block.Phi.{Phi}
use Rattle.il_types.specs.Prelude.{definers_of, is_given}

-- ---- operands

abbrev pub operand_of : Val → Operand ℕ
operand_of (Int n) = Number n
operand_of (Temp t) = At t
operand_of (Global g) = Name g

abbrev pub destination_of : Dest → Destination ℕ
destination_of d = record { place = d.temp; class = d.class }

abbrev pub result_of : Val → ReturnValue ℕ
result_of a = record { value = operand_of a; extension = Made }

abbrev pub argument_of : Arg → Argument ℕ
argument_of a = record { class = a.class; value = operand_of a.value; extension = Made }

-- ---- words that stand sign-extended

-- the operand's word stands sign-extended as it is, in a register of class W, or is known, in a
-- number
abbrev pub is_whole : Classes → Operand ℕ → Bool
is_whole classes (At p) = same_class (classes p) W
is_whole classes (Number n) = true
is_whole classes (Name g) = false

abbrev pub are_whole : Classes → Operand ℕ → Operand ℕ → Bool
are_whole classes a b = is_whole classes a && is_whole classes b

-- the word of such an operand, sign-extended
abbrev pub word : Operand ℕ → Operand ℕ
word (Number n) = Number (sign_extended (n % 2 ^ 32))
word a = a

-- ---- comparisons

-- two words that both stand sign-extended compare as longs
abbrev pub words_compared : Condition → (left right : Operand ℕ) → (whole : Bool) → Comparison ℕ
words_compared on a b true = record { condition = on; class = L; left = word a; right = word b }
words_compared on a b false = record { condition = on; class = W; left = a; right = b }

abbrev pub comparison_of : Classes → Condition → Class → Operand ℕ → Operand ℕ → Comparison ℕ
comparison_of classes on W a b = words_compared on a b (are_whole classes a b)
comparison_of classes on L a b = record { condition = on; class = L; left = a; right = b }

-- the word is not 0
abbrev pub not_zero : Classes → Operand ℕ → Comparison ℕ
not_zero classes a = comparison_of classes NotEqual W a (Number 0)

-- ---- one operand

-- the operand as a word, sign-extended
abbrev pub as_word : ℕ → Operand ℕ → Line ℕ
as_word t a = Operate t (RegW Addw) a (Number 0)

abbrev pub word_line : ℕ → Operand ℕ → (whole : Bool) → Line ℕ
word_line t a true = Set t (word a)
word_line t a false = as_word t a

abbrev pub word_of : Classes → ℕ → Operand ℕ → Line ℕ
word_of classes t a = word_line t a (is_whole classes a)

-- a shift to the left by so many bits, and then this one to the right
abbrev pub shifted : ℕ → RegOp → (bits : ℕ) → Operand ℕ → List (Line ℕ)
shifted t back bits a =
    Operate t (Reg SllReg) a (Number bits) ∷ Operate t (Reg back) (At t) (Number bits) ∷ []

abbrev pub extend_lines : Classes → ℕ → Extension → Operand ℕ → List (Line ℕ)
extend_lines classes t SignedWord a = word_of classes t a ∷ []
extend_lines classes t UnsignedWord a = shifted t SrlReg 32 a
extend_lines classes t SignedHalf a = shifted t SraReg 48 a
extend_lines classes t UnsignedHalf a = shifted t SrlReg 48 a
extend_lines classes t SignedByte a = shifted t SraReg 56 a
extend_lines classes t UnsignedByte a = Operate t (Reg AndReg) a (Number 255) ∷ []

-- a load into a word may as well extend by the sign: its low 32 bits count
abbrev pub load_of : Extension → Class → LoadOp
load_of SignedWord c = Lw
load_of UnsignedWord W = Lw
load_of UnsignedWord L = Lwu
load_of SignedHalf c = Lh
load_of UnsignedHalf c = Lhu
load_of SignedByte c = Lb
load_of UnsignedByte c = Lbu

abbrev pub copy_lines : Classes → ℕ → Class → Operand ℕ → List (Line ℕ)
copy_lines classes t W a = word_of classes t a ∷ []
copy_lines classes t L a = Set t a ∷ []

abbrev pub negate_lines : ℕ → Class → Operand ℕ → List (Line ℕ)
negate_lines t W a = Operate t (RegW Subw) (Number 0) a ∷ []
negate_lines t L a = Operate t (Reg SubReg) (Number 0) a ∷ []

abbrev pub unary_lines : Classes → ℕ → UnaryOp → Class → Operand ℕ → List (Line ℕ)
unary_lines classes t Neg c a = negate_lines t c a
unary_lines classes t Copy c a = copy_lines classes t c a
unary_lines classes t (Extend e) c a = extend_lines classes t e a
unary_lines classes t LoadLong c a = Load t Ld (at_once a) ∷ []
unary_lines classes t (LoadNarrow e) c a = Load t (load_of e c) (at_once a) ∷ []

-- ---- two operands

abbrev pub operation_of : BinaryOp → Class → Operation
operation_of Add W = RegW Addw
operation_of Add L = Reg AddReg
operation_of Sub W = RegW Subw
operation_of Sub L = Reg SubReg
operation_of Mul W = RegW Mulw
operation_of Mul L = Reg MulReg
operation_of And c = Reg AndReg
operation_of Or c = Reg OrReg
operation_of Xor c = Reg XorReg
operation_of Div W = RegW Divw
operation_of Div L = Reg DivReg
operation_of Rem W = RegW Remw
operation_of Rem L = Reg RemReg
operation_of Udiv W = RegW Divuw
operation_of Udiv L = Reg DivuReg
operation_of Urem W = RegW Remuw
operation_of Urem L = Reg RemuReg
operation_of Sar W = RegW Sraw
operation_of Sar L = Reg SraReg
operation_of Shr W = RegW Srlw
operation_of Shr L = Reg SrlReg
operation_of Shl W = RegW Sllw
operation_of Shl L = Reg SllReg
operation_of (Compare on k) c = CompareValues on k

-- an operation on all bits of two words: of two that stand sign-extended the result does too, of
-- any others its low 32 bits count
abbrev pub bits_of_words : ℕ → RegOp → (left right : Operand ℕ) → (whole : Bool) → List (Line ℕ)
bits_of_words t op a b true = Operate t (Reg op) (word a) (word b) ∷ []
bits_of_words t op a b false = Operate t (Reg op) a b ∷ as_word t (At t) ∷ []

abbrev pub bit_lines : Classes → ℕ → RegOp → Operand ℕ → Operand ℕ → List (Line ℕ)
bit_lines classes t op a b = bits_of_words t op a b (are_whole classes a b)

abbrev pub compare_line : ℕ → Comparison ℕ → Line ℕ
compare_line t c = Operate t (CompareValues c.condition c.class) c.left c.right

abbrev pub binary_lines : Classes → ℕ → BinaryOp → Class → Operand ℕ → Operand ℕ → List (Line ℕ)
binary_lines classes t And W a b = bit_lines classes t AndReg a b
binary_lines classes t Or W a b = bit_lines classes t OrReg a b
binary_lines classes t Xor W a b = bit_lines classes t XorReg a b
binary_lines classes t (Compare on k) c a b = compare_line t (comparison_of classes on k a b) ∷ []
binary_lines classes t op c a b = Operate t (operation_of op c) a b ∷ []

-- ---- instructions

abbrev pub inst_lines : Classes → Inst → List (Line ℕ)
inst_lines classes (Unary to op a) = unary_lines classes to.temp op to.class (operand_of a)
inst_lines classes (Binary to op a b) =
    binary_lines classes to.temp op to.class (operand_of a) (operand_of b)
inst_lines classes (AllocInst to alignment size) = Alloc (Some to.temp) size ∷ []
inst_lines classes (StoreInst size a at) = Store size (operand_of a) (at_once (operand_of at)) ∷ []
inst_lines classes (BlitInst from to count) = Blit (operand_of from) (operand_of to) count ∷ []
inst_lines classes (CallInst to callee args) =
    Call (option_map destination_of to) (operand_of callee) (map argument_of args) ∷ []

-- an instruction begins a turn, and spends its weight
abbrev pub turn_lines : Classes → Lined Inst → List (Line ℕ)
turn_lines classes i = Tick true (inst_weight i.item) ∷ inst_lines classes i.item

abbrev pub all_lines : Classes → List (Lined Inst) → List (Line ℕ)
all_lines classes [] = []
all_lines classes (i ∷ insts) = turn_lines classes i ++ all_lines classes insts

-- ---- endings

abbrev pub assignment_lines : Classes → List Assignment → List (Line ℕ)
assignment_lines classes [] = []
assignment_lines classes (c ∷ cs) =
    copy_lines classes c.to.temp c.to.class (operand_of c.value) ++ assignment_lines classes cs

abbrev pub ending_lines : Classes → Ending → List (Line ℕ)
ending_lines classes e = Tick e.turn e.weight ∷ assignment_lines classes e.copies

abbrev pub jump_of : Classes → Leave → Jump ℕ
jump_of classes (Goto k) = GotoBlock k
jump_of classes (Branch on nonzero otherwise) =
    BranchTo (not_zero classes (operand_of on)) nonzero otherwise
jump_of classes (Return a) = ReturnWith (option_map result_of a)
jump_of classes Halt = HaltRun

-- ---- blocks

abbrev pub block_of : Classes → Block → Ending → VirtualBlock ℕ
block_of classes b e =
    record {
      lines = all_lines classes b.insts ++ ending_lines classes e;
      jump = jump_of classes e.leave;
    }

abbrev pub edge_of : Classes → Ending → VirtualBlock ℕ
edge_of classes e = record { lines = ending_lines classes e; jump = jump_of classes e.leave }

-- each block with its ending
abbrev pub blocks_of : Classes → List Block → List Ending → List (VirtualBlock ℕ)
blocks_of classes [] es = []
blocks_of classes (b ∷ bs) [] = []
blocks_of classes (b ∷ bs) (e ∷ es) = block_of classes b e ∷ blocks_of classes bs es

abbrev pub parameter_of : Param → Destination ℕ
parameter_of p = record { place = p.temp; class = p.class }

unfoldable pub selected : Classes → Func → Endings → Code ℕ
selected classes f code =
    record {
      result = f.result;
      params = map parameter_of f.params;
      blocks = blocks_of classes f.blocks code.endings ++ map (edge_of classes) code.edges;
    }

-- ---- the class of each temporary of a function without phis: a word where a parameter, a phi or an
-- instruction assigns it as one, or where it is the own temporary of a phi whose result is a word;
-- else a long.
abbrev pub class_given : Func → ℕ → Class
class_given f t = if is_given W t (definers_of f) then W else L

abbrev pub or_long : Option Phi → Class
or_long None = L
or_long (Some p) = p.to.class

-- all phis, in order
abbrev pub all_phis : List Block → List Phi
all_phis blocks = flat_map (λ (b : Block). b.phis) blocks

abbrev pub classes_in : Func → Classes
classes_in f t =
    if nat_lt t (length f.temps) then class_given f t
    else or_long (slice_get (all_phis f.blocks) (t - length f.temps))

-- ---- what virtual code keeps as the code of a `VFunc`, with so many registers
pub record IsVirtual (v : Code ℕ) (registers : ℕ) : Type 0 where
  pub regular : IsRegular v
  pub known : IsTrue (keeps_places (is_below registers) v)
  pub low : IsTrue (are_low v.params)
  pub distinct : IsTrue (are_distinct virtual v.params)
