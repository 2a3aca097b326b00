use Rattle.std.proofs.Common.{◌≡◌, ◌+◌, drop}
use Rattle.alloc_check.specs.Prelude.{jump_point, own_of, IsTable, lines_in}
use Rattle.alloc_check.proofs.check.lines.Given as goal

abbrev pub invariant-loop-from : goal.invariant-loop-from
invariant-loop-from l =
    record {
      walk : lines_in l.ground.registers l.certificate l.at (own_of l.table) (drop l.from-index l.lines) ≡ lines_in l.ground.registers l.certificate l.first (own_of l.fn.table) l.fn.lines;
      points : jump_point l.at (drop l.from-index l.lines) ≡ jump_point l.first l.fn.lines;
      table : IsTable l.ground.registers l.ground.everywhere.now (l.at + 1) l.table;
    }
