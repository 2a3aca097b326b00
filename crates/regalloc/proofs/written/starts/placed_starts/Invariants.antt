use Rattle.std.proofs.Common.{◌≡◌, true}
use Rattle.std.specs.List.{list_all}
use Rattle.regalloc.specs.Scanned.{are_placed}
use Rattle.regalloc.proofs.written.starts.placed_starts.Given as goal

abbrev pub invariant-loop-block : goal.invariant-loop-block
invariant-loop-block l = list_all (are_placed l.registers) l.starts ≡ true

abbrev pub invariant-loop-start : goal.invariant-loop-start
invariant-loop-start l = are_placed l.registers l.equalities ≡ true
