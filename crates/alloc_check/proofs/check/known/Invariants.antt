use Rattle.std.proofs.Common.{◌≡◌, drop}
use Rattle.alloc_check.specs.Prelude.{own_of, IsTable, known_in}
use Rattle.alloc_check.proofs.check.known.Given as goal

abbrev pub invariant-loop-equality : goal.invariant-loop-equality
invariant-loop-equality l =
    record {
      walk : known_in l.ground.registers (drop l.equality-index l.equalities) (own_of l.table) ≡ known_in l.ground.registers l.fn.equalities (own_of l.fn.table);
      table : IsTable l.ground.registers l.ground.everywhere.now l.time l.table;
    }
