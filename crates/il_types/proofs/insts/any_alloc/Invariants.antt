use Rattle.std.proofs.Common.{◌≡◌, drop}
use Rattle.il_types.specs.Prelude.{in_insts, is_alloc}
use Rattle.il_types.proofs.insts.any_alloc.Given as goal

abbrev pub invariant-loop-block : goal.invariant-loop-block
invariant-loop-block l = in_insts is_alloc (drop l.block-index l.blocks) ≡ in_insts is_alloc l.blocks
