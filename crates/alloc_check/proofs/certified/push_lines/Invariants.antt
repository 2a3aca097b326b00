use Rattle.std.proofs.Common.{◌≡◌, ◌++◌, drop}
use Rattle.alloc_check.specs.Prelude.{jump_point, certified_lines}
use Rattle.alloc_check.proofs.certified.push_lines.Given as goal

abbrev pub invariant-loop-from : goal.invariant-loop-from
invariant-loop-from l =
    record {
      lines : l.placed ++ certified_lines l.certificate l.at (drop l.from-index l.lines) ≡ l.fn.placed ++ certified_lines l.certificate l.first l.fn.lines;
      points : jump_point l.at (drop l.from-index l.lines) ≡ jump_point l.first l.fn.lines;
    }
