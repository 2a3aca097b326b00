-- What most proofs speak of: types and the cases of the smallest, tests of lists, and the lemmas on them that are cited most.
pub use Rattle.rv_isa.specs.State.{State}
pub use Rattle.rv_isa.specs.declared.labelled.Item.{Item}
pub use Rattle.rv_isa.specs.declared.labelled.Item.TheVariants.{Plain, Label}
pub use Rattle.rv_isa.specs.declared.ranges.Immediate.{Immediate}
pub use Rattle.rv_isa.specs.declared.instruction.LoadOp.{LoadOp}
pub use Rattle.rv_isa.specs.declared.instruction.StoreOp.{StoreOp}
pub use Rattle.il_ast.specs.declared.operation.Class.{Class}
pub use Rattle.il_ast.specs.declared.operation.Class.TheVariants.{W, L}
pub use Rattle.il_ast.specs.declared.operation.Condition.{Condition}
pub use Rattle.vcode.specs.declared.place.Location.{Location}
pub use Rattle.vcode.specs.declared.place.Location.TheVariants.{Register as InRegister, Slot}
pub use Rattle.vcode.specs.declared.place.Operand.{Operand}
pub use Rattle.vcode.specs.declared.place.Operand.TheVariants.{At, Number, Name}
pub use Rattle.vcode.specs.declared.place.Destination.{Destination}
pub use Rattle.vcode.specs.declared.place.Argument.{Argument}
pub use Rattle.vcode.specs.declared.place.ReturnValue.{ReturnValue}
pub use Rattle.vcode.specs.declared.line.Operation.{Operation}
pub use Rattle.vcode.specs.declared.line.Comparison.{Comparison}
pub use Rattle.vcode.specs.declared.line.Line.{Line}
pub use Rattle.vcode.specs.declared.line.Jump.{Jump}
pub use Rattle.vcode.specs.declared.code.Block.{Block}
pub use Rattle.vcode.specs.declared.code.Code.{Code}
pub use Rattle.abi_frames.specs.declared.layout.Layout.{Layout}
pub use Rattle.frame_ways.specs.declared.mark.Mark.{Mark}
pub use Rattle.std.specs.List.{list_all, list_any, sum_by}
pub use Rattle.std.proofs.lemmas.Bool.{and_parts, and_from, leb-true, lt-ltb, ltb-true, eqb-true, eqb-false, not-true, both_ways, or_parts}
pub use Rattle.std.proofs.lemmas.Option.{same_Some, none-some, slice_get_within}
pub use Rattle.std.specs.Option.{option_map, option_and_then}
pub use Rattle.il_ast.proofs.Truth.{not_both, equals_itself}
pub use Rattle.il_ast.proofs.Listed.{all_at, all_append}
pub use Rattle.il_ast.proofs.Chosen.{none_is_not}
pub use Rattle.rv_isa.specs.Labels.{longest_size}
pub use Rattle.std.proofs.lemmas.Bool.Decides.{nat_tests}
pub use Rattle.std.proofs.lemmas.List.Sums.{sum_by-cons}
pub use Rattle.vcode.specs.Named.{is_place, operand_keeps, line_keeps, jump_keeps}
unfoldable pub use Rattle.rv_isa.specs.Memory.{number_at, stored}
pub use Rattle.rv_isa.specs.Arithmetic.{moved}
pub use Rattle.rv_isa.specs.Labelled.{Comes}
pub use Rattle.vcode.specs.Addresses.{low}
