use Rattle.std.proofs.Common.{append_assoc, rules}
use Rattle.rv_isa.proofs.text.shift.Goals as goal

pub returns : goal.returns
returns c = simp append_assoc (search rules)
