-- The types of the code that definitions cite, passed on from one place.
pub use Rattle.vcode.specs.declared.code.Block.{Block}
pub use Rattle.vcode.specs.declared.code.Code.{Code}
pub use Rattle.vcode.specs.declared.function.LFunc.{LFunc}
pub use Rattle.vcode.specs.declared.function.VFunc.{VFunc}
pub use Rattle.vcode.specs.declared.limits.TheConstants.{PLACES}
pub use Rattle.vcode.specs.declared.line.Comparison.{Comparison}
pub use Rattle.vcode.specs.declared.line.Jump.{Jump}
pub use Rattle.vcode.specs.declared.line.Jump.TheVariants.{Branch, Goto, Halt, Return}
pub use Rattle.vcode.specs.declared.line.Line.{Line}
pub use Rattle.vcode.specs.declared.line.Line.TheVariants.{Alloc, Blit, Call, Load, Operate, Set, Store, Tick}
pub use Rattle.vcode.specs.declared.line.Operation.{Operation}
pub use Rattle.vcode.specs.declared.line.Operation.TheVariants.{Compare, Reg, RegW}
pub use Rattle.vcode.specs.declared.place.Address.{Address}
pub use Rattle.vcode.specs.declared.place.Argument.{Argument}
pub use Rattle.vcode.specs.declared.place.Destination.{Destination}
pub use Rattle.vcode.specs.declared.place.Extension.{Extension}
pub use Rattle.vcode.specs.declared.place.Extension.TheVariants.{Claimed, Made}
pub use Rattle.vcode.specs.declared.place.Location.{Location}
pub use Rattle.vcode.specs.declared.place.Location.TheVariants.{Register, Slot}
pub use Rattle.vcode.specs.declared.place.Operand.{Operand}
pub use Rattle.vcode.specs.declared.place.Operand.TheVariants.{At, Name, Number}
pub use Rattle.vcode.specs.declared.place.ReturnValue.{ReturnValue}
