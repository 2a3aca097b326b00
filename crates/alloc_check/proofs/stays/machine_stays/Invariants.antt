use Rattle.std.proofs.Common.{◌≡◌}
use Rattle.alloc_check.specs.Prelude.{own_of, machine_stays}
use Rattle.alloc_check.proofs.stays.machine_stays.Given as goal

abbrev pub invariant-loop-register : goal.invariant-loop-register
invariant-loop-register l = l.all ≡ machine_stays l.ground.everywhere.now (own_of l.fn.table) l.register
