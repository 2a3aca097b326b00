use Rattle.std.proofs.Common.{◌≡◌, ◌++◌, map, drop}
use Rattle.select.specs.Narrow.{phi_destination}
use Rattle.select.proofs.classes.collect_phis.Given as goal

abbrev pub invariant-loop-phi : goal.invariant-loop-phi
invariant-loop-phi l = l.assigned ++ map phi_destination (drop l.phi-index l.phis) ≡ l.fn.assigned ++ map phi_destination l.fn.phis
