use Rattle.std.proofs.Common.{◌≡◌, ◌++◌, take, flat_map}
use Rattle.promote.specs.Uses.{phi_mentions}
use Rattle.promote.proofs.mentions.collect_phis.Given as goal

abbrev pub invariant-loop-phi : goal.invariant-loop-phi
invariant-loop-phi l = l.found.items ≡ l.fn.found.items ++ flat_map phi_mentions (take l.phi-index l.phis)
