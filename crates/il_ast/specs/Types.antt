-- The types of the code that definitions cite, passed on from one place.
pub use Rattle.il_ast.specs.declared.block.Block.{Block}
pub use Rattle.il_ast.specs.declared.block.Phi.{Phi}
pub use Rattle.il_ast.specs.declared.block.PhiArg.{PhiArg}
pub use Rattle.il_ast.specs.declared.datum.DataDef.{DataDef}
pub use Rattle.il_ast.specs.declared.datum.Field.{Field}
pub use Rattle.il_ast.specs.declared.datum.Field.TheVariants.{Items, Zeros}
pub use Rattle.il_ast.specs.declared.datum.Item.{Item}
pub use Rattle.il_ast.specs.declared.datum.Item.TheVariants.{Address, Bytes}
pub use Rattle.il_ast.specs.declared.function.Func.{Func}
pub use Rattle.il_ast.specs.declared.function.Param.{Param}
pub use Rattle.il_ast.specs.declared.instruction.Inst.{Inst}
pub use Rattle.il_ast.specs.declared.instruction.Inst.TheVariants.{Alloc, Binary, Blit, Call, Store, Unary}
pub use Rattle.il_ast.specs.declared.instruction.Jump.{Jump}
pub use Rattle.il_ast.specs.declared.instruction.Jump.TheVariants.{Branch, Goto, Return}
pub use Rattle.il_ast.specs.declared.instruction.Lined.{Lined}
pub use Rattle.il_ast.specs.declared.limits.TheConstants.{STACK_ROOM}
pub use Rattle.il_ast.specs.declared.operand.Arg.{Arg}
pub use Rattle.il_ast.specs.declared.operand.Dest.{Dest}
pub use Rattle.il_ast.specs.declared.operand.Val.{Val}
pub use Rattle.il_ast.specs.declared.operand.Val.TheVariants.{Global, Int, Temp}
pub use Rattle.il_ast.specs.declared.operation.Alignment.TheVariants.{Eight, Four}
pub use Rattle.il_ast.specs.declared.operation.BinaryOp.{BinaryOp}
pub use Rattle.il_ast.specs.declared.operation.BinaryOp.TheVariants.{Add, And, Compare, Div, Mul, Or, Rem, Sar, Shl, Shr, Sub, Udiv, Urem, Xor}
pub use Rattle.il_ast.specs.declared.operation.Class.{Class}
pub use Rattle.il_ast.specs.declared.operation.Class.TheVariants.{L, W}
pub use Rattle.il_ast.specs.declared.operation.Condition.{Condition}
pub use Rattle.il_ast.specs.declared.operation.Condition.TheVariants.{Equal, NotEqual, SignedGreater, SignedGreaterEqual, SignedLess, SignedLessEqual, UnsignedGreater, UnsignedGreaterEqual, UnsignedLess, UnsignedLessEqual}
pub use Rattle.il_ast.specs.declared.operation.Extension.{Extension}
pub use Rattle.il_ast.specs.declared.operation.Extension.TheVariants.{SignedByte, SignedHalf, SignedWord, UnsignedByte, UnsignedHalf, UnsignedWord}
pub use Rattle.il_ast.specs.declared.operation.Size.{Size}
pub use Rattle.il_ast.specs.declared.operation.Size.TheVariants.{Byte, Half, Long, Word}
pub use Rattle.il_ast.specs.declared.operation.UnaryOp.{UnaryOp}
pub use Rattle.il_ast.specs.declared.operation.UnaryOp.TheVariants.{Copy, Extend, Load, LoadLong, Neg}
pub use Rattle.il_ast.specs.declared.program.InText.{InText}
pub use Rattle.il_ast.specs.declared.program.Program.{Program}
pub use Rattle.il_ast.specs.declared.program.Target.{Target}
pub use Rattle.il_ast.specs.declared.program.Target.TheVariants.{Code, Object}
pub use Rattle.il_ast.specs.declared.text.Definition.{Definition}
pub use Rattle.il_ast.specs.declared.value.Callee.{Callee}
pub use Rattle.il_ast.specs.declared.value.Callee.TheVariants.{Defined, SystemExit, SystemWrite}
pub use Rattle.il_ast.specs.declared.value.Cell.{Cell}
pub use Rattle.il_ast.specs.declared.value.Cell.TheVariants.{Blank, Part, Plain}
pub use Rattle.il_ast.specs.declared.value.End.{End}
pub use Rattle.il_ast.specs.declared.value.End.TheVariants.{Exit, Halt, Stack, Turns, Undefined}
pub use Rattle.il_ast.specs.declared.value.Value.{Value}
pub use Rattle.il_ast.specs.declared.value.Value.TheVariants.{Function, Integer, Pointer}
