use Rattle.std.proofs.Common.{◌≡◌, ◌++◌, map, take}
use Rattle.constant_placement.specs.Known.{set_line}
use Rattle.constant_placement.proofs.sinking.with_sets.push_sets.Given as goal

abbrev pub invariant-loop-known : goal.invariant-loop-known
invariant-loop-known l = l.to.items ≡ l.fn.to.items ++ map set_line (take l.known-index l.plan)
