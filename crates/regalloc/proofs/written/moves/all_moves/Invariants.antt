use Rattle.std.proofs.Common.{◌≡◌, true}
use Rattle.std.specs.List.{list_all}
use Rattle.regalloc.specs.Scanned.{are_between}
use Rattle.regalloc.proofs.written.moves.all_moves.Given as goal

abbrev pub invariant-loop-point : goal.invariant-loop-point
invariant-loop-point l = list_all (are_between l.registers) l.lists ≡ true

abbrev pub invariant-loop-one : goal.invariant-loop-one
invariant-loop-one l = are_between l.registers l.transfers ≡ true
