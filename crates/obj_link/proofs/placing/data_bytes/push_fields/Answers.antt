use Rattle.std.proofs.Common.{arith}
use Rattle.std.proofs.lemmas.Grind.{common_steps}
use Rattle.obj_link.proofs.placing.data_bytes.push_fields.Goals as goal

pub loop-field-preserved : goal.loop-field-preserved
loop-field-preserved c = grind (arith, common_steps)

pub returns-in_err-push_field : goal.returns-in_err-push_field
returns-in_err-push_field c = grind (arith, common_steps)
