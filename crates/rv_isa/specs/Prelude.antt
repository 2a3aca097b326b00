-- The definitions that the code, proofs and crates above cite, passed on from one place. Declares nothing.
pub use Rattle.rv_isa.specs.Arithmetic.{addiw_value, imm_op_of, imm_value, moved, quotient, reg_value, regw_value, remainder, shift_value, shiftw_value, taken, truth, unsigned_quotient, unsigned_remainder, upper_value, widened, word_value}
pub use Rattle.rv_isa.specs.Decoding.{amount_of, b_half, b_offset, branch_op, candidate, i_immediate, j_half, j_offset, load_op, op_imm, op_imm_32, rd_of, reg_op, regw_op, right_shift_op, right_shiftw_op, rs1_of, rs2_of, s_bits, s_immediate, store_op, upper_of, word_amount_of}
unfoldable pub use Rattle.rv_isa.specs.Decoding.{candidate_at, instruction_of}
pub use Rattle.rv_isa.specs.Encoding.{branch_row, imm_row, load_row, reg_row, regw_row, shift_row, shiftw_row, store_row, word}
pub use Rattle.rv_isa.specs.Examples.{Examples}
pub use Rattle.rv_isa.specs.Formats.{b_type, i_type, j_type, joined, low_bits, part, s_type, signed, u_type}
pub use Rattle.rv_isa.specs.Labelled.{Calls, Fixed, Ground, InstrAt, Moves, AboveStays, BelowStays, OthersStay, RunsCompose, Stays, StepActs, StepKeeps, StepStays, StepsCome, StoredIsRead, WordsDecode, LaysOut, WordsStand, all_reach, fill, filled, Comes, Going, Run, Stopped, then_run}
unfoldable pub use Rattle.rv_isa.specs.Labelled.{Stand, Stands, runs}
pub use Rattle.rv_isa.specs.Labels.{IsLabelled, LabelledItems, has_label_below, is_label, longest, longest_size, times_labelled}
pub use Rattle.rv_isa.specs.Memory.{allowed, can_execute, can_read, can_write, is_code}
unfoldable pub use Rattle.rv_isa.specs.Memory.{bytes_at, each_of, number_at, stored}
pub use Rattle.rv_isa.specs.Readings.{signed12_fits}
pub use Rattle.rv_isa.specs.Relocations.{completed, filled_in, half_distance, jump_part, lower_part, named, of_global, reaches, relocated, upper_part}
pub use Rattle.rv_isa.specs.Start.{StartsWith, pointer_bytes, stack_bottom, stack_top, word_bytes}
unfoldable pub use Rattle.rv_isa.specs.Start.{argument_bytes}
pub use Rattle.rv_isa.specs.State.{IsState, State, a0, a1, a2, a7, put, register, updated, written}
pub use Rattle.rv_isa.specs.Step.{Broken, Exited, Faulted, Stop, act, act_on, branch, environment_call, even_below, jump, load, load_size, load_value, store, store_size, write_call}
unfoldable pub use Rattle.rv_isa.specs.Step.{step}
pub use Rattle.rv_isa.specs.Text.{text_of}
pub use Rattle.rv_isa.specs.Types.{Add, Addi, Addiw, Addw, Amount, And, Andi, Auipc, BAD_DESCRIPTOR, Beq, Bge, Bgeu, Blt, Bltu, Bne, Branch, BranchOffset, BranchOp, Div, Divu, Divuw, Divw, EXIT, Ebreak, Ecall, Fence, Fetch, Imm, ImmOp, Immediate, Instr, Jal, Jalr, JumpOffset, Lb, Lbu, Ld, Lh, Lhu, Load, LoadOp, Lui, Lw, Lwu, Mul, Mulh, Mulhsu, Mulhu, Mulw, Or, Ori, Permission, Reg, RegOp, RegW, RegWOp, Register, Rem, Remu, Remuw, Remw, STANDARD_OUTPUT, Sb, Sd, Sh, Shift, ShiftOp, ShiftW, ShiftWOp, Sll, Slli, Slliw, Sllw, Slt, Slti, Sltiu, Sltu, Sra, Srai, Sraiw, Sraw, Srl, Srli, Srliw, Srlw, Store, StoreOp, Sub, Subw, Sw, SystemCall, UnknownInstruction, UpperField, WRITE, WordAmount, Xor, Xori, ZERO}
pub use Rattle.rv_isa.specs.Words.{IsCode, Words, lie_between}
