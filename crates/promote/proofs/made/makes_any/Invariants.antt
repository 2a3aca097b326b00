use Rattle.std.proofs.Common.{◌≡◌, drop}
use Rattle.promote.specs.Uses.{makes_any}
use Rattle.promote.proofs.made.makes_any.Given as goal

abbrev pub invariant-loop-block : goal.invariant-loop-block
invariant-loop-block l = makes_any (drop l.block-index l.blocks) ≡ makes_any l.blocks
