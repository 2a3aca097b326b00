use Rattle.std.proofs.Common.{◌≡◌, take}
use Rattle.promote.proofs.rewriting.copied_phis.Given as goal

abbrev pub invariant-loop-phi : goal.invariant-loop-phi
invariant-loop-phi l = l.copy.items ≡ take l.phi-index l.phis
