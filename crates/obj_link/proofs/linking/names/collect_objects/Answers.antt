use Rattle.std.proofs.Common.{arith}
use Rattle.std.proofs.lemmas.Grind.{common_steps}
use Rattle.obj_link.proofs.linking.names.collect_objects.Goals as goal

pub loop-definition-preserved : goal.loop-definition-preserved
loop-definition-preserved c = grind (arith, common_steps)

pub returns-in_err-push-in-Object : goal.returns-in_err-push-in-Object
returns-in_err-push-in-Object c = grind (arith, common_steps)
