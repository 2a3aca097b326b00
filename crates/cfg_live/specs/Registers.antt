-- The virtual registers that lines and jumps read; which one a line writes is said with the code.
use Rattle.std.specs.Prelude.{ℕ, List, [], ◌∷◌, ◌++◌, Some, None}
use Rattle.vcode.specs.declared.place.Operand.{Operand}
use Rattle.vcode.specs.declared.place.Operand.TheVariants.{At, Number, Name}
use Rattle.vcode.specs.declared.place.Argument.{Argument}
use Rattle.vcode.specs.declared.line.Line.{Line}
use Rattle.vcode.specs.declared.line.Line.TheVariants.{Tick, Set, Operate, Load, Store, Alloc, Blit, Call}
use Rattle.vcode.specs.declared.line.Jump.{Jump}
use Rattle.vcode.specs.declared.line.Jump.TheVariants.{Goto, Branch, Return, Halt}
pub use Rattle.vcode.specs.Rewrites.{line_writes}

abbrev pub with_operand : List ℕ → Operand ℕ → List ℕ
with_operand rs (At r) = rs ++ r ∷ []
with_operand rs (Number n) = rs
with_operand rs (Name g) = rs

abbrev pub with_args : List ℕ → List (Argument ℕ) → List ℕ
with_args rs [] = rs
with_args rs (a ∷ args) = with_args (with_operand rs a.value) args

abbrev pub line_reads : Line ℕ → List ℕ
line_reads (Tick turn w) = []
line_reads (Set to a) = with_operand [] a
line_reads (Operate to op a b) = with_operand (with_operand [] a) b
line_reads (Load to op at) = with_operand [] at.base
line_reads (Store size a at) = with_operand (with_operand [] a) at.base
line_reads (Alloc to size) = []
line_reads (Blit from to count) = with_operand (with_operand [] from) to
line_reads (Call to callee args) = with_args (with_operand [] callee) args

abbrev pub jump_reads : Jump ℕ → List ℕ
jump_reads (Goto k) = []
jump_reads (Branch on met otherwise) = with_operand (with_operand [] on.left) on.right
jump_reads (Return None) = []
jump_reads (Return (Some a)) = with_operand [] a.value
jump_reads Halt = []
