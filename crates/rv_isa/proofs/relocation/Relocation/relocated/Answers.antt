use Rattle.std.proofs.Common.{rules}
use Rattle.rv_isa.proofs.relocation.Relocation.relocated.Goals as goal

pub returns : goal.returns
returns c = search rules
