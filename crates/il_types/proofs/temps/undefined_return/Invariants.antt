use Rattle.std.proofs.Common.{◌≡◌, drop}
use Rattle.il_types.specs.Prelude.{returned_undefined}
use Rattle.il_types.proofs.temps.undefined_return.Given as goal

abbrev pub invariant-loop-block : goal.invariant-loop-block
invariant-loop-block l = returned_undefined l.words l.longs (drop l.block-index l.blocks) ≡ returned_undefined l.words l.longs l.blocks
