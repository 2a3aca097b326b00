use Rattle.std.proofs.Common.{arith}
use Rattle.std.proofs.lemmas.Grind.{common_steps}
use Rattle.asm_layout.proofs.places.longest_places.Goals as goal

pub returns-in_err-places : goal.returns-in_err-places
returns-in_err-places c = grind (arith, common_steps)

pub returns : goal.returns
returns c = grind (arith, common_steps)
