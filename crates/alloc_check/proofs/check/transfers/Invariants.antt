use Rattle.std.proofs.Common.{◌≡◌, drop}
use Rattle.alloc_check.specs.Prelude.{own_of, IsTable, moved_in}
use Rattle.alloc_check.proofs.check.transfers.Given as goal

abbrev pub invariant-loop-transfer : goal.invariant-loop-transfer
invariant-loop-transfer l =
    record {
      walk : moved_in l.ground.registers (drop l.transfer-index l.moves) (own_of l.table) ≡ moved_in l.ground.registers l.fn.moves (own_of l.fn.table);
      table : IsTable l.ground.registers l.ground.everywhere.now l.time l.table;
    }
