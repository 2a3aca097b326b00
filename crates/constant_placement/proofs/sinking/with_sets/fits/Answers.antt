use Rattle.std.proofs.Common.{rules}
use Rattle.constant_placement.proofs.sinking.with_sets.fits.Goals as goal

pub returns-then-are_low-clause-stay : goal.returns-then-are_low-clause-stay
returns-then-are_low-clause-stay c = search rules
