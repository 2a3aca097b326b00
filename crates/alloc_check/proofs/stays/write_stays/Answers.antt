use Rattle.std.proofs.Common.{rules}
use Rattle.alloc_check.proofs.stays.write_stays.Goals as goal

pub returns-then-place_stays : goal.returns-then-place_stays
returns-then-place_stays c = search rules
