use Rattle.std.proofs.Common.{◌≡◌, true}
use Rattle.regalloc.specs.Scanned.{are_placed}
use Rattle.regalloc.proofs.written.starts.placed_everywhere.Given as goal

abbrev pub invariant-loop-register : goal.invariant-loop-register
invariant-loop-register l = are_placed l.registers l.equalities ≡ true
