use Rattle.std.proofs.Common.{◌≡◌, take}
use Rattle.il_types.specs.Prelude.{label_sites}
use Rattle.il_types.proofs.sites.label_sites.Given as goal

abbrev pub invariant-loop-block : goal.invariant-loop-block
invariant-loop-block l = l.found.items ≡ label_sites (take l.block-index l.blocks)
