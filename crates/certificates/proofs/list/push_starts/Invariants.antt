use Rattle.std.proofs.Common.{◌≡◌, ◌++◌, drop}
use Rattle.certificates.specs.Listed.{end_point, listed_starts}
use Rattle.certificates.proofs.list.push_starts.Given as goal

abbrev pub invariant-loop-block : goal.invariant-loop-block
invariant-loop-block l =
    record {
      starts : l.starts ++ listed_starts l.list l.live l.registers l.point (drop l.block-index l.blocks) ≡ l.fn.starts ++ listed_starts l.list l.live l.registers 0 l.fn.blocks;
      points : end_point l.point (drop l.block-index l.blocks) ≡ end_point 0 l.fn.blocks;
    }
