-- Each temporary has one class, and each operand fits the place that it is read in: what the rules
-- of a good text say of the function without its phis.
use Rattle.std.specs.Prelude.{◌≡◌, ℕ, List, [], ◌∷◌, length, slice_get, Option, Some, None}
use Rattle.il_ast.specs.declared.operation.Class.{Class}
use Rattle.il_ast.specs.declared.operation.Class.TheVariants.{L}
use Rattle.il_ast.specs.declared.operation.Extension.TheVariants.{SignedWord, UnsignedWord}
use Rattle.il_ast.specs.declared.operation.UnaryOp.{UnaryOp}
use Rattle.il_ast.specs.declared.operation.UnaryOp.TheVariants.{Extend, LoadLong}
use Rattle.il_ast.specs.declared.operand.Val.{Val}
use Rattle.il_ast.specs.declared.operand.Dest.{Dest}
use Rattle.il_ast.specs.declared.operand.Arg.{Arg}
use Rattle.il_ast.specs.declared.instruction.Inst.{Inst}
use Rattle.il_ast.specs.declared.instruction.Inst.TheVariants.{Unary, Binary, Alloc, Store, Blit, Call}
use Rattle.il_ast.specs.declared.instruction.Lined.{Lined}
use Rattle.il_ast.specs.declared.block.Block.{Block}
use Rattle.il_ast.specs.declared.function.Param.{Param}
use Rattle.il_ast.specs.declared.function.Func.{Func}
use Rattle.il_ast.specs.Prelude.{operand_class, left_class, right_class, stored_class}
use Rattle.phi_copies.specs.declared.ending.Leave.{Leave}
use Rattle.phi_copies.specs.declared.ending.Leave.TheVariants.{Goto, Branch, Return, Halt}
use Rattle.phi_copies.specs.declared.ending.Ending.{Ending}
use Rattle.phi_copies.specs.Endings.{Endings}
pub use Rattle.phi_copies.specs.Classed.{Classes, Fits, Takes, CopiesFit}

abbrev pub TakesWanted : Classes → Option Dest → Type 0
TakesWanted classes None = Unit {0}
TakesWanted classes (Some d) = Takes classes d

abbrev pub ArgsFit : Classes → List Arg → Type 0
ArgsFit classes [] = Unit {0}
ArgsFit classes (a ∷ args) = Fits classes a.class a.value × ArgsFit classes args

-- the operations whose result is always long
abbrev pub HasResult : UnaryOp → Class → Type 0
HasResult (Extend SignedWord) c = c ≡ L
HasResult (Extend UnsignedWord) c = c ≡ L
HasResult LoadLong c = c ≡ L
HasResult op c = Unit {0}

abbrev pub InstFits : Classes → Inst → Type 0
InstFits classes (Unary to op a) =
    Takes classes to × HasResult op to.class × Fits classes (operand_class op to.class) a
InstFits classes (Binary to op a b) =
    Takes classes to × Fits classes (left_class op to.class) a
    × Fits classes (right_class op to.class) b
InstFits classes (Alloc to alignment size) = classes to.temp ≡ L
InstFits classes (Store size a at) = Fits classes (stored_class size) a × Fits classes L at
InstFits classes (Blit from to count) = Fits classes L from × Fits classes L to
InstFits classes (Call to callee args) =
    TakesWanted classes to × Fits classes L callee × ArgsFit classes args

abbrev pub ReturnFits : Classes → Option Class → Option Val → Type 0
ReturnFits classes result None = Unit {0}
ReturnFits classes None (Some a) = Unit {0}
ReturnFits classes (Some k) (Some a) = Fits classes k a

abbrev pub LeaveFits : Classes → Option Class → Leave → Type 0
LeaveFits classes result (Goto k) = Unit {0}
LeaveFits classes result (Branch on nonzero otherwise) = Unit {0}
LeaveFits classes result (Return a) = ReturnFits classes result a
LeaveFits classes result Halt = Unit {0}

abbrev pub EndingFits : Classes → Option Class → Ending → Type 0
EndingFits classes result e = CopiesFit classes e.copies × LeaveFits classes result e.leave

abbrev pub ParamsFit : Classes → List Param → Type 0
ParamsFit classes [] = Unit {0}
ParamsFit classes (p ∷ ps) = (classes p.temp ≡ p.class) × ParamsFit classes ps

-- a function without phis in which all fits, by these classes
pub record IsTyped (classes : Classes) (f : Func) (code : Endings) : Type 0 where
  pub params : ParamsFit classes f.params
  pub insts : (k j : ℕ) (b : Block) (i : Lined Inst) → slice_get f.blocks k ≡ Some b →
      slice_get b.insts j ≡ Some i → InstFits classes i.item
  pub endings : (k : ℕ) (e : Ending) → slice_get code.endings k ≡ Some e →
      EndingFits classes f.result e
  pub edges : (k : ℕ) (e : Ending) → slice_get code.edges k ≡ Some e → EndingFits classes f.result e
  pub each_ends : length code.endings ≡ length f.blocks
