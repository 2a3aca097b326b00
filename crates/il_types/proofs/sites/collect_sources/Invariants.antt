use Rattle.std.proofs.Common.{◌≡◌, ◌++◌, take, flat_map}
use Rattle.il_types.specs.Prelude.{phi_sources}
use Rattle.il_types.proofs.sites.collect_sources.Given as goal

abbrev pub invariant-loop-phi : goal.invariant-loop-phi
invariant-loop-phi l = l.found.items ≡ l.fn.found.items ++ flat_map phi_sources (take l.phi-index l.phis)
