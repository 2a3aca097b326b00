use Rattle.std.proofs.Common.{◌≡◌, true, drop}
use Rattle.constant_placement.specs.Known.{stay_known}
use Rattle.constant_placement.proofs.sinking.known.stay_known.Given as goal

abbrev pub invariant-loop-known : goal.invariant-loop-known
invariant-loop-known l = stay_known l.lines (drop l.known-index l.plan) ≡ true → stay_known l.lines l.plan ≡ true
