use Rattle.std.proofs.Common.{arith}
use Rattle.std.proofs.lemmas.Grind.{common_steps}
use Rattle.promote.proofs.mentions.collect_item.Goals as goal

pub returns-in_ok-collect_value-in-Store : goal.returns-in_ok-collect_value-in-Store
returns-in_ok-collect_value-in-Store c = grind (arith, common_steps)
