use Rattle.std.proofs.Common.{◌≡◌, true, drop}
use Rattle.std.specs.List.{list_all}
use Rattle.alloc_check.specs.Prelude.{known, standing, exists_in, first_at, stands_at, HasRoom}
use Rattle.alloc_check.proofs.first.know_all.Given as goal

abbrev pub invariant-loop-equality : goal.invariant-loop-equality
invariant-loop-equality l =
    record {
      owners : known (drop l.equality-index l.everywhere) (first_at l.first) ≡ known l.fn.everywhere (first_at l.fn.first);
      places : standing (drop l.equality-index l.everywhere) (stands_at l.first) ≡ standing l.fn.everywhere (stands_at l.fn.first);
      exist : list_all (exists_in l.registers) (drop l.equality-index l.everywhere) ≡ true;
      room : HasRoom l.registers l.first;
    }
