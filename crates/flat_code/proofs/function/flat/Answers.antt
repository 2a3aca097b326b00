use Rattle.flat_code.proofs.Kept.{regular_is_kept}
use Rattle.flat_code.proofs.function.flat.Goals as goal

pub returns-clause-keeps : goal.returns-clause-keeps
returns-clause-keeps c = regular_is_kept c.args.function.code c.args.function.regular
