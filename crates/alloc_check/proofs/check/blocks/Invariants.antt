use Rattle.std.proofs.Common.{◌≡◌, drop}
use Rattle.alloc_check.specs.Prelude.{end_point, IsTable, blocks_in}
use Rattle.alloc_check.proofs.check.blocks.Given as goal

abbrev pub invariant-loop-index : goal.invariant-loop-index
invariant-loop-index l =
    record {
      walk : blocks_in l.ground.registers l.ground.everywhere.now l.certificate l.first l.index (drop l.index l.blocks) ≡ blocks_in l.ground.registers l.ground.everywhere.now l.certificate 0 0 l.fn.blocks;
      points : end_point l.first (drop l.index l.blocks) ≡ end_point 0 l.fn.blocks;
      table : IsTable l.ground.registers l.ground.everywhere.now l.first l.table;
    }
