use Rattle.std.proofs.Common.{arith}
use Rattle.std.proofs.lemmas.Grind.{common_steps}
use Rattle.rv_isa.proofs.arithmetic.quotient.Goals as goal

pub wrapping_div-requires : goal.wrapping_div-requires
wrapping_div-requires c = grind (arith, common_steps)
