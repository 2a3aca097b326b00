use Rattle.std.proofs.Common.{◌≡◌, drop}
use Rattle.constant_placement.specs.Known.{known_at_end}
use Rattle.constant_placement.proofs.sinking.known.known_at_end.Given as goal

abbrev pub invariant-loop-line : goal.invariant-loop-line
invariant-loop-line l = known_at_end (drop l.line-index l.lines) l.wanted l.known ≡ known_at_end l.lines l.wanted l.fn.known
