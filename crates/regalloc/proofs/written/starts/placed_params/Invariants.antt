use Rattle.std.proofs.Common.{◌≡◌, true}
use Rattle.std.specs.List.{list_all}
use Rattle.vcode.specs.Prelude.{is_place}
use Rattle.regalloc.proofs.written.starts.placed_params.Given as goal

abbrev pub invariant-loop-param : goal.invariant-loop-param
invariant-loop-param l = list_all (is_place l.registers) l.params ≡ true
