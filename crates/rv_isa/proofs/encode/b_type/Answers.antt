use Rattle.std.proofs.Common.{rules, arith}
use Rattle.std.proofs.lemmas.Grind.{common_steps}
use Rattle.rv_isa.proofs.encode.b_type.Goals as goal

pub overflow_mul-rd : goal.overflow_mul-rd
overflow_mul-rd c = omega arith

pub overflow_add-rd : goal.overflow_add-rd
overflow_add-rd c = omega arith

pub overflow_mul-funct7 : goal.overflow_mul-funct7
overflow_mul-funct7 c = omega arith

pub overflow_add-funct7 : goal.overflow_add-funct7
overflow_add-funct7 c = omega arith

pub joined-requires-clause-rd_fits : goal.joined-requires-clause-rd_fits
joined-requires-clause-rd_fits c = omega arith

pub joined-requires-clause-funct3_fits : goal.joined-requires-clause-funct3_fits
joined-requires-clause-funct3_fits c = omega arith

pub joined-requires-clause-rs1_fits : goal.joined-requires-clause-rs1_fits
joined-requires-clause-rs1_fits c = omega arith

pub joined-requires-clause-rs2_fits : goal.joined-requires-clause-rs2_fits
joined-requires-clause-rs2_fits c = omega arith

pub joined-requires-clause-funct7_fits : goal.joined-requires-clause-funct7_fits
joined-requires-clause-funct7_fits c = omega arith

pub rem_euclid-requires-clause-nonzero : goal.rem_euclid-requires-clause-nonzero
rem_euclid-requires-clause-nonzero c = grind (arith, common_steps)

pub rem_euclid-requires-clause-no_overflow : goal.rem_euclid-requires-clause-no_overflow
rem_euclid-requires-clause-no_overflow c = grind (arith, common_steps)

pub returns : goal.returns
returns c = search rules
