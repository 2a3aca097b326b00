use Rattle.std.proofs.Common.{◌≡◌, true}
use Rattle.regalloc.specs.Scanned.{are_placed}
use Rattle.regalloc.proofs.written.points.places_of.Given as goal

abbrev pub invariant-loop-arg : goal.invariant-loop-arg
invariant-loop-arg l = are_placed l.registers l.equalities ≡ true
