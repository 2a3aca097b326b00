use Rattle.std.proofs.Common.{rules}
use Rattle.inlining.proofs.site.answers.Goals as goal

pub returns-then-result_fits : goal.returns-then-result_fits
returns-then-result_fits c = search rules
