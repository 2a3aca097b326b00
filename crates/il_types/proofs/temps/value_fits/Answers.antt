use Rattle.std.proofs.Common.{rules}
use Rattle.il_types.proofs.temps.value_fits.Goals as goal

pub returns-else-eq : goal.returns-else-eq
returns-else-eq c = search rules
