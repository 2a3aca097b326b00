-- The types of the code that definitions cite, passed on from one place.
pub use Rattle.rv_isa.specs.declared.abi.TheConstants.{BAD_DESCRIPTOR, EXIT, FIRST_ARGUMENT, JUMP_SCRATCH, RETURN_ADDRESS, SECOND_ARGUMENT, STACK_BOTTOM, STACK_POINTER, STACK_TOP, STANDARD_OUTPUT, SYSTEM_CALL, THIRD_ARGUMENT, WRITE, ZERO}
pub use Rattle.rv_isa.specs.declared.code.Hole.{Hole}
pub use Rattle.rv_isa.specs.declared.fault.Fault.{Fault}
pub use Rattle.rv_isa.specs.declared.fault.Fault.TheVariants.{Fetch, SystemCall, UnknownInstruction}
pub use Rattle.rv_isa.specs.declared.instruction.BranchOp.{BranchOp}
pub use Rattle.rv_isa.specs.declared.instruction.BranchOp.TheVariants.{Beq, Bge, Bgeu, Blt, Bltu, Bne}
pub use Rattle.rv_isa.specs.declared.instruction.ImmOp.{ImmOp}
pub use Rattle.rv_isa.specs.declared.instruction.ImmOp.TheVariants.{Addi, Andi, Ori, Slti, Sltiu, Xori}
pub use Rattle.rv_isa.specs.declared.instruction.Instr.{Instr}
pub use Rattle.rv_isa.specs.declared.instruction.Instr.TheVariants.{Addiw, Auipc, Branch, Ebreak, Ecall, Fence, Imm, Jal, Jalr, Load, Lui, Reg, RegW, Shift, ShiftW, Store}
pub use Rattle.rv_isa.specs.declared.instruction.LoadOp.{LoadOp}
pub use Rattle.rv_isa.specs.declared.instruction.LoadOp.TheVariants.{Lb, Lbu, Ld, Lh, Lhu, Lw, Lwu}
pub use Rattle.rv_isa.specs.declared.instruction.RegOp.{RegOp}
pub use Rattle.rv_isa.specs.declared.instruction.RegOp.TheVariants.{Add, And, Div, Divu, Mul, Mulh, Mulhsu, Mulhu, Or, Rem, Remu, Sll, Slt, Sltu, Sra, Srl, Sub, Xor}
pub use Rattle.rv_isa.specs.declared.instruction.RegWOp.{RegWOp}
pub use Rattle.rv_isa.specs.declared.instruction.RegWOp.TheVariants.{Addw, Divuw, Divw, Mulw, Remuw, Remw, Sllw, Sraw, Srlw, Subw}
pub use Rattle.rv_isa.specs.declared.instruction.ShiftOp.{ShiftOp}
pub use Rattle.rv_isa.specs.declared.instruction.ShiftOp.TheVariants.{Slli, Srai, Srli}
pub use Rattle.rv_isa.specs.declared.instruction.ShiftWOp.{ShiftWOp}
pub use Rattle.rv_isa.specs.declared.instruction.ShiftWOp.TheVariants.{Slliw, Sraiw, Srliw}
pub use Rattle.rv_isa.specs.declared.instruction.StoreOp.{StoreOp}
pub use Rattle.rv_isa.specs.declared.instruction.StoreOp.TheVariants.{Sb, Sd, Sh, Sw}
pub use Rattle.rv_isa.specs.declared.labelled.Item.{Item}
pub use Rattle.rv_isa.specs.declared.labelled.Item.TheVariants.{Call, Goto, Label, Plain, Relocated}
pub use Rattle.rv_isa.specs.declared.permission.Permission.{Permission}
pub use Rattle.rv_isa.specs.declared.ranges.Amount.{Amount}
pub use Rattle.rv_isa.specs.declared.ranges.BranchOffset.{BranchOffset}
pub use Rattle.rv_isa.specs.declared.ranges.Immediate.{Immediate}
pub use Rattle.rv_isa.specs.declared.ranges.JumpOffset.{JumpOffset}
pub use Rattle.rv_isa.specs.declared.ranges.Register.{Register}
pub use Rattle.rv_isa.specs.declared.ranges.UpperField.{UpperField}
pub use Rattle.rv_isa.specs.declared.ranges.WordAmount.{WordAmount}
pub use Rattle.rv_isa.specs.declared.relocation.Filling.{Filling}
pub use Rattle.rv_isa.specs.declared.relocation.Filling.TheVariants.{Part}
pub use Rattle.rv_isa.specs.declared.relocation.Partial.{Partial}
pub use Rattle.rv_isa.specs.declared.relocation.Partial.TheVariants.{Jump, Upper}
pub use Rattle.rv_isa.specs.declared.relocation.Relocation.{Relocation}
