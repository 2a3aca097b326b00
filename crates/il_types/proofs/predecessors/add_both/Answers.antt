use Rattle.std.proofs.Common.{rules}
use Rattle.il_types.proofs.predecessors.add_both.Goals as goal

pub returns-in_ok-add-2 : goal.returns-in_ok-add-2
returns-in_ok-add-2 c = search rules

pub returns-else-one-other : goal.returns-else-one-other
returns-else-one-other c = search rules
