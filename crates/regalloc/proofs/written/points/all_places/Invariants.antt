use Rattle.std.proofs.Common.{◌≡◌, true}
use Rattle.std.specs.List.{list_all}
use Rattle.regalloc.specs.Scanned.{are_placed}
use Rattle.regalloc.proofs.written.points.all_places.Given as goal

abbrev pub invariant-loop-block : goal.invariant-loop-block
invariant-loop-block l = list_all (are_placed l.registers) l.places ≡ true

abbrev pub invariant-loop-line : goal.invariant-loop-line
invariant-loop-line l = list_all (are_placed l.registers) l.places ≡ true
