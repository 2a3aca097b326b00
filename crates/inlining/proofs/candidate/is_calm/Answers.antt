use Rattle.std.proofs.Common.{rules}
use Rattle.inlining.proofs.candidate.is_calm.Goals as goal

pub returns-in-Call : goal.returns-in-Call
returns-in-Call c = search rules
