use Rattle.std.proofs.Common.{arith}
use Rattle.std.proofs.lemmas.Grind.{common_steps}
use Rattle.il_types.proofs.repeats.named_again.Goals as goal

pub loop-site-preserved : goal.loop-site-preserved
loop-site-preserved c = (λ n. grind (arith, common_steps), λ n. grind (arith, common_steps))
