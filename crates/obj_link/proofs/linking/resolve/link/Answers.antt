use Rattle.std.proofs.Common.{arith}
use Rattle.std.proofs.lemmas.Grind.{common_steps}
use Rattle.obj_link.proofs.linking.resolve.link.Goals as goal

pub returns-in_err-functions : goal.returns-in_err-functions
returns-in_err-functions c = grind (arith, common_steps)

pub returns-in_err-objects : goal.returns-in_err-objects
returns-in_err-objects c = grind (arith, common_steps)
