use Rattle.std.proofs.Common.{◌≡◌, ◌++◌, map, drop}
use Rattle.phi_copies.specs.Together.{wanted}
use Rattle.phi_copies.proofs.copies.wanted.Given as goal

abbrev pub invariant-loop-phi : goal.invariant-loop-phi
invariant-loop-phi l = l.copies.items ++ map (wanted l.from) (drop l.phi-index l.phis) ≡ map (wanted l.from) l.phis
