use Rattle.std.proofs.Common.{◌≡◌, ◌++◌}
use Rattle.certificates.specs.Listed.{live_places}
use Rattle.certificates.proofs.list.push_live.Given as goal

abbrev pub invariant-loop-register : goal.invariant-loop-register
invariant-loop-register l = l.equalities ≡ l.fn.equalities ++ live_places l.list l.live l.point l.register
