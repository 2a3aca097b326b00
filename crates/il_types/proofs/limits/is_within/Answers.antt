use Rattle.std.proofs.Common.{rules}
use Rattle.il_types.proofs.limits.is_within.Goals as goal

pub returns-else-small : goal.returns-else-small
returns-else-small c = search rules
