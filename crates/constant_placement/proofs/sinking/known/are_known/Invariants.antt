use Rattle.std.proofs.Common.{◌≡◌, true, drop}
use Rattle.constant_placement.specs.Known.{are_known}
use Rattle.constant_placement.proofs.sinking.known.are_known.Given as goal

abbrev pub invariant-loop-one : goal.invariant-loop-one
invariant-loop-one l = are_known l.plan l.lines (drop l.one-index l.wanted) ≡ true → are_known l.plan l.lines l.wanted ≡ true
