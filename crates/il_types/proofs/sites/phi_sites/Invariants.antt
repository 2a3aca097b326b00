use Rattle.std.proofs.Common.{◌≡◌, take}
use Rattle.il_types.specs.Prelude.{phi_sites}
use Rattle.il_types.proofs.sites.phi_sites.Given as goal

abbrev pub invariant-loop-phi : goal.invariant-loop-phi
invariant-loop-phi l = l.found.items ≡ phi_sites (take l.phi-index l.phis)
