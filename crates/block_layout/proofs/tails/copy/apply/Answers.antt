use Rattle.std.proofs.Common.{rules}
use Rattle.block_layout.proofs.tails.copy.apply.Goals as goal

pub with_these-requires-clause-light : goal.with_these-requires-clause-light
with_these-requires-clause-light c = search rules
