use Rattle.std.proofs.Common.{◌≡◌, ◌++◌, drop}
use Rattle.alloc_check.specs.Prelude.{certified_blocks, end_point}
use Rattle.alloc_check.proofs.certified.push_blocks.Given as goal

abbrev pub invariant-loop-block : goal.invariant-loop-block
invariant-loop-block l =
    record {
      blocks : l.placed ++ certified_blocks l.certificate l.first (drop l.block-index l.blocks) ≡ l.fn.placed ++ certified_blocks l.certificate 0 l.fn.blocks;
      points : end_point l.first (drop l.block-index l.blocks) ≡ end_point 0 l.fn.blocks;
    }
