use Rattle.std.proofs.Common.{rules}
use Rattle.alloc_check.proofs.fits.is_placed.Goals as goal

pub returns-then-are_distinct : goal.returns-then-are_distinct
returns-then-are_distinct c = search rules
