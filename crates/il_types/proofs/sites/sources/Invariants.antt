use Rattle.std.proofs.Common.{◌≡◌, take, flat_map}
use Rattle.il_types.specs.Prelude.{sources_in}
use Rattle.il_types.proofs.sites.sources.Given as goal

abbrev pub invariant-loop-block : goal.invariant-loop-block
invariant-loop-block l = l.found.items ≡ flat_map sources_in (take l.block-index l.blocks)
