use Rattle.std.proofs.Common.{arith}
use Rattle.std.proofs.lemmas.Grind.{common_steps}
use Rattle.obj_link.proofs.placing.data_bytes.push_items.Goals as goal

pub loop-item-preserved : goal.loop-item-preserved
loop-item-preserved c = grind (arith, common_steps)

pub returns-in_err-push_item : goal.returns-in_err-push_item
returns-in_err-push_item c = grind (arith, common_steps)
