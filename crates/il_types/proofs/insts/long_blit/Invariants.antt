use Rattle.std.proofs.Common.{◌≡◌, drop}
use Rattle.il_types.specs.Prelude.{in_insts, is_long_blit}
use Rattle.il_types.proofs.insts.long_blit.Given as goal

abbrev pub invariant-loop-block : goal.invariant-loop-block
invariant-loop-block l = in_insts is_long_blit (drop l.block-index l.blocks) ≡ in_insts is_long_blit l.blocks
