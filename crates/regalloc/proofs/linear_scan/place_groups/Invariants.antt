use Rattle.std.proofs.Common.{◌≡◌, true, length}
use Rattle.std.specs.List.{list_all}
use Rattle.vcode.specs.Prelude.{is_place}
use Rattle.regalloc.proofs.linear_scan.place_groups.Given as goal

abbrev pub invariant-loop-candidate : goal.invariant-loop-candidate
invariant-loop-candidate l = (list_all (is_place l.registers) l.list ≡ true) × (length l.list ≡ length l.fn.list)
