-- Lines and jumps in which other operands stand: what a pass makes of them that changes only what
-- they read.
use Rattle.std.specs.Prelude.{ℕ, map, option_map}
use Rattle.vcode.specs.declared.place.Operand.{Operand}
use Rattle.vcode.specs.declared.place.ReturnValue.{ReturnValue}
use Rattle.vcode.specs.declared.place.Address.{Address}
use Rattle.vcode.specs.declared.place.Argument.{Argument}
use Rattle.vcode.specs.declared.line.Line.{Line}
use Rattle.vcode.specs.declared.line.Line.TheVariants.{Tick, Set, Operate, Load, Store, Alloc, Blit, Call}
use Rattle.vcode.specs.declared.line.Comparison.{Comparison}
use Rattle.vcode.specs.declared.line.Jump.{Jump}
use Rattle.vcode.specs.declared.line.Jump.TheVariants.{Goto, Branch, Return, Halt}

-- the operand that stands in the place of each
abbrev pub Replacing : Type 0
Replacing = Operand ℕ → Operand ℕ

abbrev pub with_base : Replacing → Address ℕ → Address ℕ
with_base f at = record { base = f at.base; offset = at.offset }

abbrev pub with_argument : Replacing → Argument ℕ → Argument ℕ
with_argument f a = record { class = a.class; value = f a.value; extension = a.extension }

abbrev pub with_returned : Replacing → ReturnValue ℕ → ReturnValue ℕ
with_returned f a = record { value = f a.value; extension = a.extension }

abbrev pub with_line : Replacing → Line ℕ → Line ℕ
with_line f (Tick turn w) = Tick turn w
with_line f (Set to a) = Set to (f a)
with_line f (Operate to op a b) = Operate to op (f a) (f b)
with_line f (Load to op at) = Load to op (with_base f at)
with_line f (Store size a at) = Store size (f a) (with_base f at)
with_line f (Alloc to size) = Alloc to size
with_line f (Blit from to count) = Blit (f from) (f to) count
with_line f (Call to callee args) = Call to (f callee) (map (with_argument f) args)

abbrev pub with_comparison : Replacing → Comparison ℕ → Comparison ℕ
with_comparison f on =
    record { condition = on.condition; class = on.class; left = f on.left; right = f on.right }

abbrev pub with_jump : Replacing → Jump ℕ → Jump ℕ
with_jump f (Goto k) = Goto k
with_jump f (Branch on met otherwise) = Branch (with_comparison f on) met otherwise
with_jump f (Return a) = Return (option_map (with_returned f) a)
with_jump f Halt = Halt
