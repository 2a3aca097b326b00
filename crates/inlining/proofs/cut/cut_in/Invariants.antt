use Rattle.std.proofs.Common.{◌≡◌, take}
use Rattle.std.specs.List.{list_any}
use Rattle.inlining.specs.InPlace.{begins_turn}
use Rattle.inlining.proofs.cut.cut_in.Given as goal

abbrev pub invariant-loop-number : goal.invariant-loop-number
invariant-loop-number l = l.turned ≡ list_any begins_turn (take l.number l.lines)
