use Rattle.std.proofs.Common.{rules}
use Rattle.propagation.proofs.constants.claim.leads_well.Goals as goal

pub returns-then-are_known : goal.returns-then-are_known
returns-then-are_known c = search rules
