use Rattle.std.proofs.Common.{◌≡◌, drop}
use Rattle.il_types.specs.Prelude.{returned_misfit}
use Rattle.il_types.proofs.temps.misfit_return.Given as goal

abbrev pub invariant-loop-block : goal.invariant-loop-block
invariant-loop-block l = returned_misfit l.words l.result_class (drop l.block-index l.blocks) ≡ returned_misfit l.words l.result_class l.blocks
