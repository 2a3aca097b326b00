use Rattle.std.proofs.Common.{rules}
use Rattle.rv_isa.proofs.text.text.Goals as goal

pub returns-in-Store : goal.returns-in-Store
returns-in-Store c = search rules
