use Rattle.std.proofs.Common.{arith}
use Rattle.std.proofs.lemmas.Grind.{common_steps}
use Rattle.certificates.proofs.list.push_reads.Goals as goal

pub loop-register-preserved : goal.loop-register-preserved
loop-register-preserved c = grind (arith, common_steps)
