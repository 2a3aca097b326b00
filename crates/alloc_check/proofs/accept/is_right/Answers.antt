use Rattle.std.proofs.Common.{sym, ◌∙◌}
use Rattle.alloc_check.proofs.Accepts.{starts_there}
use Rattle.alloc_check.proofs.accept.is_right.Goals as goal

pub is_sound-requires-clause-exist : goal.is_sound-requires-clause-exist
is_sound-requires-clause-exist c = (starts_there c.args.function.now c.args.certificate.now (sym c.is_whole.ensures.whole ∙ c.if-not-is_whole.false)).0
